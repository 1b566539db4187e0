-- The arguments that are told are those that are sent.
use Rattle.std.proofs.Common.{◌≡◌, ℕ, Bool, true, false, List, [], ◌∷◌, ◌++◌, Option, None, Some, refl, ap, ◌∙◌}
use Rattle.std.specs.Prelude.{map, filter_map, Result, Ok, Err, IfOk}
use Rattle.std.specs.List.{flat_map, cons_option}
use Rattle.std.specs.Option.{option_map, option_map_or, option_and_then, option_or}
use Rattle.std.proofs.lemmas.List.{map-append}
use Rattle.pol_names.specs.SameService.{same_service}
use Rattle.pol_names.specs.SubjectId.{user_id}
use Rattle.pol_names.specs.declared.decision.Decision.{Decision}
use Rattle.pol_names.specs.declared.decision.Verdict.{Verdict}
use Rattle.pol_names.specs.declared.decision.Verdict.TheVariants.{Permit, Deny}
use Rattle.pol_names.specs.declared.service.ServiceId.{ServiceId}
use Rattle.pol_names.specs.declared.service.ServiceLine.{ServiceLine}
use Rattle.pol_names.specs.declared.subject_id.SubjectId.{SubjectId}
use Rattle.pol_text.specs.Policy.{id_of, find_subject, chain, first_level, level_of}
use Rattle.pol_text.specs.declared.subject.Subject.{Subject}
use Rattle.pol_given.specs.Given.{the_shell, speaking, refuses, attribute_in, attributes_of, level_argument, level_arguments, given_by}
use Rattle.pol_given.specs.Granting.{line_gives, subject_gives, first_levelled, level_given, shell_given, service_given, given, shell_sent, sent, texts}
use Rattle.pol_given.specs.declared.grant.GivenArgument.{GivenArgument}
use Rattle.pol_given.specs.declared.grant.Given.{Given}

-- ---- attributes

line_told : (owner : SubjectId) (attribute : Option (List ℕ)) (rest : List GivenArgument)
    → map (λ (a : GivenArgument). a.argument) (option_map_or (λ text. record { owner = owner; argument = text } ∷ []) attribute [] ++ rest) ≡ cons_option attribute (map (λ (a : GivenArgument). a.argument) rest)
line_told owner None rest = refl
line_told owner (Some text) rest = refl

lines_told : (owner : SubjectId) (service : ServiceId) (lines : List ServiceLine)
    → map (λ (a : GivenArgument). a.argument) (flat_map (line_gives owner service) lines) ≡ filter_map (attribute_in service) lines
lines_told owner service [] = refl
lines_told owner service (line ∷ rest) =
    line_told owner (attribute_in service line) (flat_map (line_gives owner service) rest)
    ∙ ap (cons_option (attribute_in service line)) (lines_told owner service rest)

subject_told : (service : ServiceId) (subject : Subject) → map (λ (a : GivenArgument). a.argument) (subject_gives service subject) ≡ attributes_of service subject
subject_told service subject = lines_told (id_of subject) service subject.services

owner_told : (service : ServiceId) (owner : Option Subject)
    → map (λ (a : GivenArgument). a.argument) (option_map_or (subject_gives service) owner []) ≡ option_map_or (attributes_of service) owner []
owner_told service None = refl
owner_told service (Some owner) = subject_told service owner

-- ---- the level

-- the level of whom it is found to be
level_in : Option (SubjectId × ℕ) → List (List ℕ)
level_in found = map (λ (a : GivenArgument). a.argument) (option_map_or (λ found. record { owner = found.0; argument = level_argument found.1 } ∷ []) found [])

level_step : (subject : Subject) (level : Option ℕ) (later : Option (SubjectId × ℕ)) (rest : Option ℕ) → level_in later ≡ level_arguments rest
    → level_in (option_or (option_map (λ n. (id_of subject, n)) level) later) ≡ level_arguments (option_or level rest)
unfolding level_in
level_step subject None later rest h = h
level_step subject (Some n) later rest h = refl

levels_told : (subjects : List Subject) → level_in (first_levelled subjects) ≡ level_arguments (first_level subjects)
unfolding level_in
levels_told [] = refl
levels_told (subject ∷ rest) = level_step subject subject.priv_lvl (first_levelled rest) (first_level rest) (levels_told rest)

level_told : (policy : List Subject) (found : Option Subject)
    → level_in (option_and_then (λ user. first_levelled (chain policy user)) found) ≡ level_arguments (option_and_then (λ user. first_level (chain policy user)) found)
unfolding level_in
level_told policy None = refl
level_told policy (Some user) = levels_told (chain policy user)

-- ---- all of it

shell_told : (policy : List Subject) (name : List ℕ) (decision : Decision) (verdict : Verdict) → texts (shell_given policy name decision verdict) ≡ shell_sent policy name verdict
unfolding level_in
shell_told policy name decision Deny = refl
shell_told policy name decision Permit =
    map-append (λ (a : GivenArgument). a.argument) (level_given policy name) (option_map_or (subject_gives the_shell) (speaking policy name the_shell) [])
    ∙ ap (λ (l : List (List ℕ)). l ++ map (λ (a : GivenArgument). a.argument) (option_map_or (subject_gives the_shell) (speaking policy name the_shell) [])) (level_told policy (find_subject (user_id name) policy))
    ∙ ap (λ (l : List (List ℕ)). level_arguments (level_of policy (user_id name)) ++ l) (owner_told the_shell (speaking policy name the_shell))

service_told : (service : ServiceId) (owner : Option Subject) → texts (service_given service owner) ≡ option_map_or (λ arguments. arguments) (option_and_then (given_by service) owner) []
service_told service None = refl
service_told service (Some owner) = by (refuses service owner) refl
  where
    by : (no : Bool) → refuses service owner ≡ no → texts (service_given service (Some owner)) ≡ option_map_or (λ arguments. arguments) (given_by service owner) []
    by true e = rw e refl
    by false e = rw e (subject_told service owner)

told_is_sent : (policy : List Subject) (name : List ℕ) (service : ServiceId) (decision : Option Decision) → texts (given policy name service decision) ≡ sent policy name service decision
told_is_sent policy name service None = refl
told_is_sent policy name service (Some decision) = by (same_service service the_shell) refl
  where
    by : (shell : Bool) → same_service service the_shell ≡ shell → texts (given policy name service (Some decision)) ≡ sent policy name service (Some decision)
    by true e = rw e (shell_told policy name decision decision.verdict)
    by false e = rw e (service_told service (speaking policy name service))

pub sent_so : {E : Type 0} (policy : List Subject) (name : List ℕ) (service : ServiceId) (decision : Option Decision) (result : Result Given E)
    → IfOk result (λ told. told ≡ given policy name service decision) → IfOk result (λ told. texts told ≡ sent policy name service decision)
sent_so policy name service decision (Ok told) h = ap texts h ∙ told_is_sent policy name service decision
sent_so policy name service decision (Err fault) h = tt
