-- What a user is given for a service, and by whom: what an operator's question `given` is answered
-- (docs/CONSOLE.md).
use Rattle.std.specs.Prelude.{ℕ, List, [], ◌∷◌, ◌++◌, map, Option, Some, None}
use Rattle.std.specs.Prelude.{option_map, if◌then◌else◌}
use Rattle.std.specs.List.{flat_map}
use Rattle.std.specs.Option.{option_and_then, option_map_or, option_or}
use Rattle.pol_names.specs.SameService.{same_service}
use Rattle.pol_names.specs.SubjectId.{user_id}
use Rattle.pol_names.specs.declared.decision.Decision.{Decision}
use Rattle.pol_names.specs.declared.decision.Verdict.{Verdict}
use Rattle.pol_names.specs.declared.decision.Verdict.TheVariants.{Permit, Deny}
use Rattle.pol_names.specs.declared.service.ServiceId.{ServiceId}
use Rattle.pol_names.specs.declared.service.ServiceLine.{ServiceLine}
use Rattle.pol_names.specs.declared.subject_id.SubjectId.{SubjectId}
use Rattle.pol_text.specs.Policy.{id_of, find_subject, chain}
use Rattle.pol_text.specs.declared.subject.Subject.{Subject}
use Rattle.pol_given.specs.Given.{the_shell, speaking, refuses, attribute_in}
use Rattle.pol_given.specs.Given.{level_argument, shell_arguments, service_arguments}
use Rattle.pol_given.specs.declared.grant.Grant.{Grant}
use Rattle.pol_given.specs.declared.grant.Grant.TheVariants.{UnknownUser, Unserved, Refused}
use Rattle.pol_given.specs.declared.grant.Grant.TheVariants.{Granted, Decided}
use Rattle.pol_given.specs.declared.grant.GivenArgument.{GivenArgument}
use Rattle.pol_given.specs.declared.grant.Given.{Given}

-- ---- arguments, each with who gives it

-- what a line gives to the service
abbrev pub line_gives : SubjectId → ServiceId → ServiceLine → List GivenArgument
line_gives owner service line =
    option_map_or (λ attribute. record { owner = owner; argument = attribute } ∷ [])
    (attribute_in service line) []

-- what a subject gives to the service: its attributes, in the order of its lines
abbrev pub subject_gives : ServiceId → Subject → List GivenArgument
subject_gives service subject = flat_map (line_gives (id_of subject) service) subject.services

-- the nearest level along a chain, and whose it is
abbrev pub first_levelled : List Subject → Option (SubjectId × ℕ)
first_levelled [] = None
first_levelled (subject ∷ rest) =
    option_or (option_map (λ level. (id_of subject, level)) subject.priv_lvl) (first_levelled rest)

-- what carries the level of a user's shells
abbrev pub level_given : List Subject → List ℕ → List GivenArgument
level_given policy name =
    option_map_or (λ found. record { owner = found.0; argument = level_argument found.1 } ∷ [])
    (option_and_then (λ user. first_levelled (chain policy user))
    (find_subject (user_id name) policy)) []

-- ---- what is given

abbrev pub nothing : Grant → Given
nothing grant = record { grant = grant; arguments = [] }

-- a permitted shell has the level, and then the attributes; a denied one has nothing
abbrev pub shell_given : List Subject → List ℕ → Decision → Verdict → Given
shell_given policy name decision Deny = nothing (Decided decision)
shell_given policy name decision Permit = record {
  grant = Decided decision;
  arguments = level_given policy name
      ++ option_map_or (subject_gives the_shell) (speaking policy name the_shell) [];
}

-- any other service, by who decides on it
abbrev pub service_given : ServiceId → Option Subject → Given
service_given service None = nothing Unserved
service_given service (Some owner) =
    if refuses service owner then nothing (Refused (id_of owner))
    else record {
      grant = Granted (id_of owner);
      arguments = subject_gives service owner;
    }

-- what the user is given where this is decided of the empty line, which asks for a shell; there is
-- no decision where there is no such user
abbrev pub given : List Subject → List ℕ → ServiceId → Option Decision → Given
given policy name service None = nothing UnknownUser
given policy name service (Some decision) =
    if same_service service the_shell then shell_given policy name decision decision.verdict
    else service_given service (speaking policy name service)

-- ---- what is told is what is sent

abbrev pub shell_sent : List Subject → List ℕ → Verdict → List (List ℕ)
shell_sent policy name Deny = []
shell_sent policy name Permit = shell_arguments policy name

-- the arguments that a device is sent for the user and the service, where this is decided of the
-- empty line
abbrev pub sent : List Subject → List ℕ → ServiceId → Option Decision → List (List ℕ)
sent policy name service None = []
sent policy name service (Some decision) =
    if same_service service the_shell then shell_sent policy name decision.verdict
    else option_map_or (λ arguments. arguments) (service_arguments policy name service) []

-- these are the ones that are told
abbrev pub texts : Given → List (List ℕ)
texts given = map (λ told. told.argument) given.arguments
