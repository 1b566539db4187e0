-- What an edit makes of a policy: the new policy, or the first refusal.
use Rattle.std.specs.Prelude.{◌≡◌, ℕ, ◌+◌, ◌-◌, nat_le, List, [], ◌∷◌, ◌++◌, length, Bool, true}
use Rattle.std.specs.Prelude.{false, not, ◌&&◌, ◌||◌, is_some, Option, Some, None, Result, Ok, Err}
use Rattle.std.specs.Prelude.{ok_or, if◌then◌else◌}
use Rattle.std.specs.Option.{option_map, option_map_or}
use Rattle.std.specs.Result.{is_ok}
use Rattle.basics.specs.Memory.{Except}
use Rattle.pol_pattern.specs.Reading.{pattern_of}
use Rattle.pol_pattern.specs.declared.fault.PatternFault.{PatternFault}
use Rattle.sha_crypt.specs.HashText.{hash_of}
use Rattle.pol_names.specs.Secret.{is_secret}
use Rattle.pol_names.specs.SubjectId.{same_kind, group_id, user_id}
use Rattle.pol_names.specs.Service.{any_clash, is_right_line, allowing}
use Rattle.pol_names.specs.declared.service.ServiceLine.{ServiceLine}
use Rattle.pol_text.specs.Policy.{find_subject, all_of, max_subjects, max_rules, max_services}
use Rattle.pol_text.specs.Policy.{max_level}
use Rattle.pol_text.specs.Text.{new_subject}
use Rattle.pol_text.specs.Change.{with_changed, without, is_parent, has_room_below, chain_fault}
use Rattle.pol_text.specs.Change.{with_parent, with_secret, with_priv, with_rule_at}
use Rattle.pol_text.specs.Change.{without_rule_at, with_rule_moved, with_line_last}
use Rattle.pol_text.specs.Change.{without_service}
use Rattle.pol_names.specs.declared.secret.Credential.TheVariants.{Login, Enable}
use Rattle.pol_names.specs.declared.secret.Secret.TheVariants.{Clear, Hashed}
use Rattle.pol_names.specs.declared.subject_id.Kind.{Kind}
use Rattle.pol_names.specs.declared.subject_id.Kind.TheVariants.{Group, User}
use Rattle.pol_names.specs.declared.decision.Verdict.{Verdict}
use Rattle.pol_names.specs.declared.subject_id.SubjectId.{SubjectId}
use Rattle.pol_text.specs.declared.subject.Subject.{Subject}
use Rattle.pol_text.specs.declared.fault.ChainFault.{ChainFault}
use Rattle.pol_text.specs.declared.fault.ChainFault.TheVariants as chains
use Rattle.pol_edit.specs.declared.edit.Edit.{Edit}
use Rattle.pol_edit.specs.declared.edit.Edit.TheVariants.{AddGroup, AddUser, Remove, SetParent}
use Rattle.pol_edit.specs.declared.edit.Edit.TheVariants.{SetLogin, SetEnable, SetPriv, InsertRule}
use Rattle.pol_edit.specs.declared.edit.Edit.TheVariants.{SetHash, AddService, ClearService}
use Rattle.pol_edit.specs.declared.edit.Edit.TheVariants.{RemoveRule, MoveRule}
use Rattle.pol_edit.specs.declared.fault.EditFault.{EditFault}
use Rattle.pol_edit.specs.declared.fault.EditFault.TheVariants as faults

infixl 10 ◌>>=◌
abbrev pub ◌>>=◌ : {A B : Type 0} → Result A EditFault → (A → Result B EditFault)
    → Result B EditFault
(Ok x) >>= f = f x
(Err e) >>= f = Err e

-- the subject, which must be there
abbrev pub present : SubjectId → List Subject → Result Subject EditFault
present id policy = ok_or (find_subject id policy) faults.NoSuch

-- the group, if one is named, must be there
abbrev pub has_group : Option (List ℕ) → List Subject → Bool
has_group parent policy = all_of (λ name. is_some (find_subject (group_id name) policy)) parent

-- a new subject goes last
unfoldable pub added_to : List Subject → Kind → List ℕ → Option (List ℕ)
    → Result (List Subject) EditFault
added_to policy kind name parent =
    if not (has_group parent policy) then Err faults.NoSuch
    else if is_some (find_subject (record { kind = kind; name = name }) policy)
    then Err faults.Exists
    else if not (all_of (λ name. has_room_below name policy) parent) then Err faults.TooDeep
    else if nat_le max_subjects (length policy) then Err faults.Limit
    else Ok (policy ++ new_subject kind name parent ∷ [])

-- a group that is a parent stays
unfoldable pub removed_from : List Subject → SubjectId → Result (List Subject) EditFault
removed_from policy id = present id policy >>= λ subject.
    if same_kind id.kind Group && is_parent id.name policy then Err faults.InUse
    else Ok (without id policy)

abbrev pub unless_chain : Option ChainFault → List Subject → Result (List Subject) EditFault
unless_chain None policy = Ok policy
unless_chain (Some chains.Cycle) policy = Err faults.Cycle
unless_chain (Some chains.TooDeep) policy = Err faults.TooDeep

unfoldable pub moved_in : List Subject → SubjectId → Option (List ℕ)
    → Result (List Subject) EditFault
moved_in policy id parent = present id policy >>= λ subject.
    if not (has_group parent policy) then Err faults.NoSuch
    else unless_chain (chain_fault (with_changed id (with_parent parent) policy))
    (with_changed id (with_parent parent) policy)

-- a setting of a subject, if its value is right
unfoldable pub set_in : List Subject → SubjectId → Bool → (Subject → Subject)
    → Result (List Subject) EditFault
set_in policy id is_right change = present id policy >>= λ subject.
    if is_right then Ok (with_changed id change policy) else Err faults.BadValue

-- a line about a service goes last, where it clashes with none and there is room
unfoldable pub said_in : List Subject → SubjectId → ServiceLine → Result (List Subject) EditFault
said_in policy id line = present id policy >>= λ subject.
    if any_clash subject.services line then Err faults.Exists
    else if not (is_right_line line) then Err faults.BadValue
    else if nat_le max_services (length subject.services) then Err faults.Limit
    else Ok (with_changed id (with_line_last line) policy)

abbrev pub pattern_read : Result (List ℕ) PatternFault → Result (List ℕ) EditFault
pattern_read (Ok source) = Ok source
pattern_read (Err fault) = Err (faults.BadPattern fault)

-- the number of a rule that is there, from 1
abbrev pub is_number : ℕ → ℕ → Bool
is_number at count = nat_le 1 at && nat_le at count

unfoldable pub inserted_in : List Subject → SubjectId → ℕ → Verdict → List ℕ
    → Result (List Subject) EditFault
inserted_in policy id at verdict text = present id policy >>= λ subject.
    if not (is_number at (length subject.rules + 1)) then Err faults.BadIndex
    else (pattern_read (pattern_of text) >>= λ pattern. if nat_le max_rules (length subject.rules)
    then Err faults.Limit
    else Ok (with_changed id
    (with_rule_at (at - 1) (record { verdict = verdict; pattern = pattern })) policy))

unfoldable pub dropped_in : List Subject → SubjectId → ℕ → Result (List Subject) EditFault
dropped_in policy id at = present id policy >>= λ subject.
    if is_number at (length subject.rules)
    then Ok (with_changed id (without_rule_at (at - 1)) policy) else Err faults.BadIndex

unfoldable pub shifted_in : List Subject → SubjectId → ℕ → ℕ → Result (List Subject) EditFault
shifted_in policy id from to = present id policy >>= λ subject.
    if is_number from (length subject.rules) && is_number to (length subject.rules)
    then Ok (with_changed id (with_rule_moved (from - 1) (to - 1)) policy)
    else Err faults.BadIndex

-- the new policy, or the first refusal
unfoldable pub applied : List Subject → Edit → Result (List Subject) EditFault
applied policy (AddGroup name parent) = added_to policy Group name parent
applied policy (AddUser name parent) = added_to policy User name parent
applied policy (Remove subject) = removed_from policy subject
applied policy (SetParent subject parent) = moved_in policy subject parent
applied policy (SetLogin user secret) =
    set_in policy (user_id user) (all_of is_secret secret)
    (with_secret Login (option_map Clear secret))
applied policy (SetEnable user secret) =
    set_in policy (user_id user) (all_of is_secret secret)
    (with_secret Enable (option_map Clear secret))
applied policy (SetHash user credential text) =
    set_in policy (user_id user) (is_some (hash_of text))
    (with_secret credential (option_map Hashed (hash_of text)))
applied policy (SetPriv subject level) =
    set_in policy subject (all_of (λ n. nat_le n max_level) level) (with_priv level)
applied policy (AddService subject line) = said_in policy subject line
applied policy (ClearService subject service attribute) =
    set_in policy subject (is_right_line (allowing service attribute))
    (without_service service attribute)
applied policy (InsertRule subject at verdict pattern) =
    inserted_in policy subject at verdict pattern
applied policy (RemoveRule subject at) = dropped_in policy subject at
applied policy (MoveRule subject from to) = shifted_in policy subject from to

-- whether the edit is of a subject that isn't there, or names such a group. These are the edits
-- that are refused as NoSuch
abbrev pub is_missing : List Subject → Edit → Bool
is_missing policy (AddGroup name parent) = not (has_group parent policy)
is_missing policy (AddUser name parent) = not (has_group parent policy)
is_missing policy (SetParent subject parent) =
    not (is_some (find_subject subject policy)) || not (has_group parent policy)
is_missing policy (SetLogin user secret) = not (is_some (find_subject (user_id user) policy))
is_missing policy (SetEnable user secret) = not (is_some (find_subject (user_id user) policy))
is_missing policy (SetHash user credential text) =
    not (is_some (find_subject (user_id user) policy))
is_missing policy (Remove subject) = not (is_some (find_subject subject policy))
is_missing policy (SetPriv subject level) = not (is_some (find_subject subject policy))
is_missing policy (AddService subject line) = not (is_some (find_subject subject policy))
is_missing policy (ClearService subject service attribute) =
    not (is_some (find_subject subject policy))
is_missing policy (InsertRule subject at verdict pattern) =
    not (is_some (find_subject subject policy))
is_missing policy (RemoveRule subject at) = not (is_some (find_subject subject policy))
is_missing policy (MoveRule subject from to) = not (is_some (find_subject subject policy))

-- ---- what a function returned, against what was wanted

-- whether the fault says that memory ran out
abbrev pub is_memory : EditFault → Bool
is_memory faults.Memory = true
is_memory fault = false

-- whether a rule may get this number: from 1 to one more than the last
abbrev pub has_place : List Subject → SubjectId → ℕ → Bool
has_place policy id at =
    option_map_or (λ subject. is_number at (length subject.rules + 1))
    (find_subject id policy) false

-- whether the edit takes memory: a subject that is added, a secret in the clear that is set and a
-- line about a service that is added do, and a pattern that is read, which it is once its rule has
-- a place. No other edit does, nor one that is refused before
abbrev pub takes_memory : List Subject → Edit → Bool
takes_memory policy (AddGroup name parent) = is_ok (applied policy (AddGroup name parent))
takes_memory policy (AddUser name parent) = is_ok (applied policy (AddUser name parent))
takes_memory policy (SetLogin user secret) =
    is_some secret && is_ok (applied policy (SetLogin user secret))
takes_memory policy (SetEnable user secret) =
    is_some secret && is_ok (applied policy (SetEnable user secret))
takes_memory policy (AddService subject line) = is_ok (applied policy (AddService subject line))
takes_memory policy (InsertRule subject at verdict pattern) = has_place policy subject at
takes_memory policy edit = false

-- the edit was made, or it was refused as wanted, and the policy is as before. The fault that
-- memory ran out replaces what is wanted only where memory is taken
abbrev pub Applies : Bool → List Subject → List Subject → Result (Unit {0}) EditFault
    → Result (List Subject) EditFault → Type 0
Applies grows old new (Ok _) wanted = wanted ≡ Ok new
Applies grows old new (Err fault) wanted =
    Except (is_memory fault && grows) (wanted ≡ Err fault) × (new ≡ old)
