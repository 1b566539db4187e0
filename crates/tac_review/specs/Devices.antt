-- That what is told to be given for a service, and compared where a policy changes, is what a device
-- is sent that asks for it.
use Rattle.std.specs.Prelude.{◌≡◌, ℕ, List, [], IsTrue, Option, Some, None, if◌then◌else◌}
use Rattle.std.specs.Option.{option_map_or}
use Rattle.pol_names.specs.Name.{is_name}
use Rattle.pol_names.specs.SameService.{same_service}
use Rattle.pol_names.specs.Service.{is_service}
use Rattle.pol_names.specs.declared.service.ServiceId.{ServiceId}
use Rattle.pol_text.specs.Policy.{decide}
use Rattle.pol_text.specs.declared.subject.Subject.{Subject}
use Rattle.pol_given.specs.Given.{the_shell}
use Rattle.pol_given.specs.Granting.{given, texts}
use Rattle.pol_given.specs.declared.grant.Given.{Given}
use Rattle.pol_meaning.specs.ServiceChanges.{reply_of}
use Rattle.tac_request.specs.Arguments.{level_arguments}
use Rattle.tac_conn.specs.declared.ask.Answer.{Answer}
use Rattle.tac_conn.specs.declared.ask.Answer.TheVariants.{Permitted, Granted}
use Rattle.tac_desk.specs.Asking.{authorisation, service_answer}
use Rattle.tac_review.specs.Cases.{is_granted}

-- what the desk answers a device that asks for the service: a shell is asked for by the empty line
abbrev pub answer_for : List Subject → List ℕ → ServiceId → Answer
answer_for policy user service =
    if same_service service the_shell then authorisation policy user []
    else service_answer policy user service.name service.protocol

-- the arguments of an answer that grants what is asked
abbrev pub sent_by : Answer → Option (List (List ℕ))
sent_by (Permitted level) = Some (level_arguments level)
sent_by (Granted arguments) = Some arguments
sent_by _ = None

-- the arguments that are told, where it is told that the service is granted
abbrev pub told_by : Given → Option (List (List ℕ))
told_by given = if is_granted given.grant then Some (texts given) else None

-- of any user and service, both are the same
abbrev pub TellsDevices : Type 0
TellsDevices =
    (policy : List Subject) (user : List ℕ) (service : ServiceId) → IsTrue (is_name user)
    → IsTrue (is_service service)
    → told_by (given policy user service (decide policy user []))
    ≡ sent_by (answer_for policy user service)

-- what is compared of these arguments: those of a shell, if it starts. Whether it does is told by the
-- empty line
abbrev pub compared_by : ServiceId → Option (List (List ℕ)) → Option (List (List ℕ))
compared_by service sent =
    if same_service service the_shell then Some (option_map_or (λ arguments. arguments) sent [])
    else sent

-- of any user and service, what edits, reloads and a diff tell is compared so
abbrev pub ComparesSent : Type 0
ComparesSent =
    (policy : List Subject) (user : List ℕ) (service : ServiceId) → IsTrue (is_name user)
    → IsTrue (is_service service)
    → reply_of policy user service
    ≡ compared_by service (sent_by (answer_for policy user service))
