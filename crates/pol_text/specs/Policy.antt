-- The policy: groups and users in order, the chain of each, and the decision
-- (docs/DEFINITIONS.md, "The policy").
use Rattle.std.specs.Prelude.{◌≡◌, ◌↔◌, ◌≤◌, ℕ, zero, suc, nat_le, List, [], ◌∷◌, ◌++◌, length, map}
use Rattle.std.specs.Prelude.{Contains, Bool, true, false, not, ◌&&◌, ◌||◌, is_some, IsTrue, Option}
use Rattle.std.specs.Prelude.{Some, None, option_map, if◌then◌else◌}
use Rattle.std.specs.Option.{option_and_then, option_map_or, option_or}
use Rattle.std.specs.Result.{is_ok}
use Rattle.std.specs.List.{list_any, list_all}
use Rattle.pol_pattern.specs.Reading.{pattern_of}
use Rattle.pol_pattern.specs.Matching.{matches}
use Rattle.pol_names.specs.Name.{is_name}
use Rattle.pol_names.specs.Kept.{is_right_secret}
use Rattle.pol_names.specs.Service.{is_right_line, clash}
use Rattle.pol_names.specs.SubjectId.{same_kind, same_id, group_id, user_id}
use Rattle.pol_names.specs.declared.subject_id.Kind.TheVariants.{User}
use Rattle.pol_names.specs.declared.decision.Verdict.TheVariants.{Deny}
use Rattle.pol_names.specs.declared.service.ServiceLine.{ServiceLine}
use Rattle.pol_names.specs.declared.subject_id.SubjectId.{SubjectId}
use Rattle.pol_text.specs.declared.subject.Rule.{Rule}
use Rattle.pol_text.specs.declared.subject.Subject.{Subject}
use Rattle.pol_names.specs.declared.decision.By.TheVariants as by
use Rattle.pol_names.specs.declared.decision.Decision.{Decision}

-- ---- how large a policy may be

-- how many subjects it has at most
abbrev pub max_subjects : ℕ
max_subjects = 1024

-- how many rules a subject has at most
abbrev pub max_rules : ℕ
max_rules = 256

-- how many lines about services a subject has at most
abbrev pub max_services : ℕ
max_services = 64

-- how many subjects a chain has at most
abbrev pub max_chain : ℕ
max_chain = 8

-- the highest privilege level
abbrev pub max_level : ℕ
max_level = 15

-- ---- subjects by name

abbrev pub id_of : Subject → SubjectId
id_of subject = record { kind = subject.kind; name = subject.name }

-- the subject of this kind and name
abbrev pub find_subject : SubjectId → List Subject → Option Subject
find_subject id [] = None
find_subject id (subject ∷ rest) =
    if same_id id (id_of subject) then Some subject else find_subject id rest

-- ---- chains

-- the group that a subject belongs to
abbrev pub parent_of : List Subject → Subject → Option Subject
parent_of policy subject =
    option_and_then (λ name. find_subject (group_id name) policy) subject.parent

-- whether the subject, its parent, that one's parent and so on are at most so many
unfoldable pub ends_within : ℕ → List Subject → Subject → Bool
ends_within zero policy subject = false
ends_within (suc most) policy subject =
    option_map_or (ends_within most policy) (parent_of policy subject) true

-- the subject, its parent, that one's parent and so on, at most so many
unfoldable pub chain_within : ℕ → List Subject → Subject → List Subject
chain_within zero policy subject = []
chain_within (suc most) policy subject =
    subject ∷ option_map_or (chain_within most policy) (parent_of policy subject) []

-- the chain of a subject; in a well-formed policy all chains end within so many
abbrev pub chain : List Subject → Subject → List Subject
chain policy subject = chain_within max_chain policy subject

-- the kinds and names along the chain of the subject, none for a subject that isn't there
abbrev pub chain_ids : List Subject → SubjectId → List SubjectId
chain_ids policy id =
    option_map_or (λ subject. map id_of (chain policy subject)) (find_subject id policy) []

-- the chain of a subject doesn't end: it has more subjects than any number
abbrev pub IsEndless : List Subject → Subject → Type 0
IsEndless policy subject = (most : ℕ) → ends_within most policy subject ≡ false

-- as many steps as there are subjects tell which chains don't end
abbrev pub TellsEndless : List Subject → Type 0
TellsEndless policy =
    (subject : Subject) → Contains policy subject
    → (ends_within (length policy) policy subject ≡ false) ↔ IsEndless policy subject

-- a chain is the subject, and then the chain of its parent
abbrev pub FollowsParent : List Subject → Subject → Type 0
FollowsParent policy subject =
    chain policy subject ≡ subject ∷ option_map_or (chain policy) (parent_of policy subject) []

-- ---- decisions

-- a rule where it stands: its owner, and its number there
pub record Entry : Type 0 where
  pub owner : SubjectId
  pub number : ℕ
  pub rule : Rule

abbrev pub numbered : SubjectId → ℕ → List Rule → List Entry
numbered owner n [] = []
numbered owner n (rule ∷ rules) =
    record { owner = owner; number = n; rule = rule } ∷ numbered owner (suc n) rules

abbrev pub own_entries : Subject → List Entry
own_entries subject = numbered (id_of subject) 1 subject.rules

abbrev pub entries_along : List Subject → List Entry
entries_along [] = []
entries_along (subject ∷ rest) = own_entries subject ++ entries_along rest

-- the rules along the chain of a subject, the subject's own first
abbrev pub entries : List Subject → Subject → List Entry
entries policy subject = entries_along (chain policy subject)

-- the entries of a subject are its own rules, and then the entries of its parent
abbrev pub InheritsEntries : List Subject → Subject → Type 0
InheritsEntries policy subject =
    entries policy subject ≡ own_entries subject
    ++ option_map_or (entries policy) (parent_of policy subject) []

-- the first entry whose pattern's set holds the whole line decides; where none
-- does, the line is denied
abbrev pub first_entry : List Entry → List ℕ → Decision
first_entry [] line = record { verdict = Deny; by = by.Default }
first_entry (entry ∷ rest) line =
    if matches entry.rule.pattern line
    then record { verdict = entry.rule.verdict; by = by.Rule entry.owner entry.number }
    else first_entry rest line

-- what the first of a subject's own rules that matches decides, where the first
-- rule has the number n
abbrev pub first_match : SubjectId → ℕ → List Rule → List ℕ → Option Decision
first_match owner n [] line = None
first_match owner n (rule ∷ rules) line =
    if matches rule.pattern line then Some (record { verdict = rule.verdict; by = by.Rule owner n })
    else first_match owner (suc n) rules line

abbrev pub decision : List Subject → Subject → List ℕ → Decision
decision policy subject line = first_entry (entries policy subject) line

-- what the policy says of a user's line; nothing where there is no such user
abbrev pub decide : List Subject → List ℕ → List ℕ → Option Decision
decide policy name line =
    option_map (λ user. decision policy user line) (find_subject (user_id name) policy)

-- ---- levels

-- the nearest level along a chain
abbrev pub first_level : List Subject → Option ℕ
first_level [] = None
first_level (subject ∷ rest) = option_or subject.priv_lvl (first_level rest)

-- the level of a subject's shells: its own, or that of the nearest of its chain that has one
abbrev pub level_of : List Subject → SubjectId → Option ℕ
level_of policy id =
    option_and_then (λ subject. first_level (chain policy subject)) (find_subject id policy)

-- ---- well-formed policies

abbrev pub all_distinct : List SubjectId → Bool
all_distinct [] = true
all_distinct (id ∷ rest) = not (list_any (same_id id) rest) && all_distinct rest

abbrev pub all_of : {A : Type 0} → (A → Bool) → Option A → Bool
all_of test None = true
all_of test (Some x) = test x

abbrev pub is_right_rule : Rule → Bool
is_right_rule rule = is_ok (pattern_of rule.pattern)

-- a group has no secrets
abbrev pub has_right_secrets : Subject → Bool
has_right_secrets subject =
    same_kind subject.kind User || not (is_some subject.login || is_some subject.enable)

-- no two of these lines clash
abbrev pub none_clash : List ServiceLine → Bool
none_clash [] = true
none_clash (line ∷ rest) = not (list_any (clash line) rest) && none_clash rest

abbrev pub are_right_lines : List ServiceLine → Bool
are_right_lines lines =
    nat_le (length lines) max_services && list_all is_right_line lines && none_clash lines

abbrev pub is_right_subject : Subject → Bool
is_right_subject subject =
    is_name subject.name && all_of is_name subject.parent && all_of is_right_secret subject.login
    && all_of is_right_secret subject.enable
    && has_right_secrets subject && all_of (λ level. nat_le level max_level) subject.priv_lvl
    && are_right_lines subject.services
    && nat_le (length subject.rules) max_rules && list_all is_right_rule subject.rules

-- the parent, if there is one, is a group of the policy
abbrev pub has_parent : List Subject → Subject → Bool
has_parent policy subject =
    all_of (λ name. is_some (find_subject (group_id name) policy)) subject.parent

pub record WellFormed (policy : List Subject) : Type 0 where
  pub few : length policy ≤ max_subjects
  pub distinct : IsTrue (all_distinct (map id_of policy))
  pub right : IsTrue (list_all is_right_subject policy)
  pub parents : IsTrue (list_all (has_parent policy) policy)
  pub short : IsTrue (list_all (ends_within max_chain policy) policy)
