-- What is told to be given is what devices are answered.
use Rattle.std.specs.Option.{option_and_then, option_map_or}
use Rattle.std.proofs.Common.{◌≡◌, ◌++◌, ◌∷◌, [], ℕ, Bool, true, false, List, Option, Some, None, Ok, IsTrue, if◌then◌else◌, option_map, append-nil, refl, sym, ap, ◌∙◌}
use Rattle.pol_names.specs.Name.{is_name, name_of}
use Rattle.pol_names.specs.SameService.{same_service}
use Rattle.pol_names.specs.Service.{is_service}
use Rattle.pol_names.specs.SubjectId.{user_id}
use Rattle.pol_names.specs.declared.decision.By.{By}
use Rattle.pol_names.specs.declared.decision.By.TheVariants.{Default}
use Rattle.pol_names.specs.declared.decision.Decision.{Decision}
use Rattle.pol_names.specs.declared.decision.Verdict.{Verdict}
use Rattle.pol_names.specs.declared.decision.Verdict.TheVariants.{Permit, Deny}
use Rattle.pol_names.specs.declared.service.ServiceId.{ServiceId}
use Rattle.pol_text.specs.Policy.{find_subject, decide, decision, level_of}
use Rattle.pol_text.specs.declared.subject.Subject.{Subject}
use Rattle.pol_given.specs.Given.{the_shell, speaking, refuses, service_named, shell_attributes}
use Rattle.pol_given.specs.Given as policies
use Rattle.pol_given.specs.Granting.{shell_given, given, sent, texts}
use Rattle.pol_given.proofs.GrantFacts.{sent_so}
use Rattle.pol_meaning.specs.LineChanges.{is_permit, permits}
use Rattle.pol_meaning.specs.ServiceChanges.{reply_of}
use Rattle.tac_request.specs.Arguments.{level_arguments}
use Rattle.tac_desk.specs.Asking.{authorised, by_verdict, permitted, with_attributes, served_by}
use Rattle.tac_review.specs.Devices.{answer_for, sent_by, told_by, compared_by, TellsDevices, ComparesSent}

-- ---- arguments

-- what is told is what is sent
texts_sent : (policy : List Subject) (user : List ℕ) (service : ServiceId) (decision : Option Decision) → texts (given policy user service decision) ≡ sent policy user service decision
texts_sent policy user service decision = sent_so {E = ℕ} policy user service decision (Ok (given policy user service decision)) refl

-- the desk's level is the policy's
same_level : (level : Option ℕ) → policies.level_arguments level ≡ level_arguments level
same_level None = refl
same_level (Some level) = refl

-- ---- a shell

sent_with : (level : Option ℕ) (attributes : List (List ℕ)) → sent_by (with_attributes level attributes) ≡ Some (level_arguments level ++ attributes)
sent_with level [] = ap Some (sym (append-nil (level_arguments level)))
sent_with level (attribute ∷ attributes) = refl

shell_texts : (policy : List Subject) (user : List ℕ)
    → texts (shell_given policy user (record { verdict = Permit; by = Default }) Permit) ≡ level_arguments (level_of policy (user_id user)) ++ shell_attributes policy user
shell_texts policy user =
    texts_sent policy user the_shell (Some (record { verdict = Permit; by = Default }))
    ∙ ap (λ (level : List (List ℕ)). level ++ shell_attributes policy user) (same_level (level_of policy (user_id user)))

shell_told : (policy : List Subject) (user : List ℕ) (by : By) (verdict : Verdict)
    → told_by (shell_given policy user (record { verdict = verdict; by = by }) verdict) ≡ sent_by (by_verdict verdict (permitted policy user []) by)
shell_told policy user by Permit = ap Some (shell_texts policy user) ∙ sym (sent_with (level_of policy (user_id user)) (shell_attributes policy user))
shell_told policy user by Deny = refl

decided_told : (policy : List Subject) (user : List ℕ) (service : ServiceId) (found : Option Subject) → same_service service the_shell ≡ true
    → told_by (given policy user service (option_map (λ subject. decision policy subject []) found)) ≡ sent_by (authorised policy user [] found)
decided_told policy user service None is = refl
decided_told policy user service (Some subject) is =
    let found = decision policy subject [] in
    rw is (shell_told policy user found.by found.verdict)

-- ---- another service

served_by_owner : (policy : List Subject) (user : List ℕ) (service : ServiceId) (decision : Decision) (owner : Option Subject) → speaking policy user service ≡ owner
    → same_service service the_shell ≡ false → told_by (given policy user service (Some decision)) ≡ sent_by (served_by service owner)
served_by_owner policy user service decision None e other = rw (other, e) refl
served_by_owner policy user service decision (Some owner) e other = refused_or (refuses service owner) refl
  where
    refused_or : (refused : Bool) → refuses service owner ≡ refused → told_by (given policy user service (Some decision)) ≡ sent_by (served_by service (Some owner))
    refused_or true r = rw (other, e, r) refl
    refused_or false r = rw (other, e, r) (ap Some (rw (other, e, r) at (texts_sent policy user service (Some decision))))

served_told : (policy : List Subject) (user : List ℕ) (service : ServiceId) (found : Option Subject) → find_subject (user_id user) policy ≡ found → same_service service the_shell ≡ false
    → told_by (given policy user service (option_map (λ subject. decision policy subject []) found)) ≡ sent_by (served_by service (speaking policy user service))
served_told policy user service None none other = rw none refl
served_told policy user service (Some subject) some other =
    served_by_owner policy user service (decision policy subject []) (speaking policy user service) refl other

-- ---- both

named : (user : List ℕ) → IsTrue (is_name user) → name_of user ≡ Some user
named user right = rw right refl

right : (service : ServiceId) → IsTrue (is_service service) → service_named service.name service.protocol ≡ Some service
right service may = rw may refl

pub tells_devices : TellsDevices
tells_devices policy user service is_user may = shell_or (same_service service the_shell) refl
  where
    shell_or : (shell : Bool) → same_service service the_shell ≡ shell → told_by (given policy user service (decide policy user [])) ≡ sent_by (answer_for policy user service)
    shell_or true e = rw (e, named user is_user) (decided_told policy user service (find_subject (user_id user) policy) e)
    shell_or false e = rw (e, named user is_user, right service may) (served_told policy user service (find_subject (user_id user) policy) refl e)

-- ---- what is compared

abbrev arguments_of : Option (List (List ℕ)) → List (List ℕ)
arguments_of sent = option_map_or (λ arguments. arguments) sent []

abbrev shell_if : Bool → List Subject → List ℕ → List (List ℕ)
shell_if starts policy user = if starts then policies.shell_arguments policy user else []

shell_compared : (policy : List Subject) (user : List ℕ) (by : By) (verdict : Verdict)
    → shell_if (is_permit verdict) policy user ≡ arguments_of (sent_by (by_verdict verdict (permitted policy user []) by))
shell_compared policy user by Permit =
    ap (λ (level : List (List ℕ)). level ++ shell_attributes policy user) (same_level (level_of policy (user_id user)))
    ∙ ap arguments_of (sym (sent_with (level_of policy (user_id user)) (shell_attributes policy user)))
shell_compared policy user by Deny = refl

decided_compared : (policy : List Subject) (user : List ℕ) (found : Option Subject)
    → shell_if (option_map_or (λ (decision : Decision). is_permit decision.verdict) (option_map (λ subject. decision policy subject []) found) false) policy user ≡ arguments_of (sent_by (authorised policy user [] found))
decided_compared policy user None = refl
decided_compared policy user (Some subject) =
    let found = decision policy subject [] in
    shell_compared policy user found.by found.verdict

given_compared : (service : ServiceId) (owner : Option Subject) → option_and_then (policies.given_by service) owner ≡ sent_by (served_by service owner)
given_compared service None = refl
given_compared service (Some owner) = refused_or (refuses service owner) refl
  where
    refused_or : (refused : Bool) → refuses service owner ≡ refused → option_and_then (policies.given_by service) (Some owner) ≡ sent_by (served_by service (Some owner))
    refused_or true r = rw r refl
    refused_or false r = rw r refl

pub compares_sent : ComparesSent
compares_sent policy user service is_user may = shell_or (same_service service the_shell) refl
  where
    shell_or : (shell : Bool) → same_service service the_shell ≡ shell → reply_of policy user service ≡ compared_by service (sent_by (answer_for policy user service))
    shell_or true e = rw (e, named user is_user) (ap Some (decided_compared policy user (find_subject (user_id user) policy)))
    shell_or false e = rw (e, named user is_user, right service may) (given_compared service (speaking policy user service))
