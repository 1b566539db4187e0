-- Which lines a change of the policy permits, or no longer does. Nothing here speaks of automata.
use Rattle.std.specs.Prelude.{◌≡◌, ℕ, Bool, true, false, not, ◌&&◌, ◌||◌, is_some}
use Rattle.std.specs.Prelude.{List, ◌++◌, map, filter}
use Rattle.std.specs.List.{AllZip}
use Rattle.std.specs.Option.{option_map_or}
use Rattle.pol_names.specs.SubjectId.{same_kind}
use Rattle.pol_names.specs.declared.subject_id.Kind.TheVariants.{User}
use Rattle.pol_names.specs.declared.decision.Verdict.{Verdict}
use Rattle.pol_names.specs.declared.decision.Verdict.TheVariants.{Permit, Deny}
use Rattle.pol_text.specs.declared.subject.Subject.{Subject}
use Rattle.pol_text.specs.Policy.{id_of, find_subject, decide}
use Rattle.pol_meaning.specs.Reach.{IsLeastIfAny}
use Rattle.pol_meaning.specs.declared.Changed.{Changed}

abbrev pub is_permit : Verdict → Bool
is_permit Permit = true
is_permit Deny = false

-- whether the policy permits the line to the user; who isn't there may do nothing
abbrev pub permits : List Subject → List ℕ → List ℕ → Bool
permits policy user line =
    option_map_or (λ decision. is_permit decision.verdict) (decide policy user line) false

-- the first policy denies the line, and the second permits it
abbrev pub IsGained : List Subject → List Subject → List ℕ → List ℕ → Type 0
IsGained before after user line =
    (permits before user line ≡ false) × (permits after user line ≡ true)

-- what changed for a user: the least line that is permitted now and was denied, and the least the
-- other way
pub record IsChangeOf (before after : List Subject) (user : List ℕ) (changed : Changed)
    : Type 0 where
  pub user_is : changed.user ≡ user
  pub permits_is : IsLeastIfAny (IsGained before after user) changed.permits
  pub denies_is : IsLeastIfAny (IsGained after before user) changed.denies

abbrev pub is_change : Changed → Bool
is_change changed = is_some changed.permits || is_some changed.denies

-- the names of the users of a policy, in order
abbrev pub users_of : List Subject → List (List ℕ)
users_of policy =
    map (λ subject. subject.name) (filter (λ subject. same_kind subject.kind User) policy)

-- a user whom another policy doesn't have
abbrev pub is_alone : List Subject → Subject → Bool
is_alone other subject =
    same_kind subject.kind User && not (is_some (find_subject (id_of subject) other))

abbrev pub users_alone : List Subject → List Subject → List (List ℕ)
users_alone other policy = map (λ subject. subject.name) (filter (is_alone other) policy)

-- of these users, in order, those are listed for whom something changed
pub record ChangesOf (before after : List Subject) (users : List (List ℕ)) (changes : List Changed)
    : Type 0 where
  pub all : List Changed
  pub each : AllZip (IsChangeOf before after) users all
  pub listed : changes ≡ filter is_change all

-- the users of the new policy, then those of the old one alone
abbrev pub AreLineChanges : List Subject → List Subject → List Changed → Type 0
AreLineChanges before after changes =
    ChangesOf before after (users_of after ++ users_alone after before) changes
