-- What is reported by the rules along a chain alone, and so is the same for all who have them.
use Rattle.std.specs.Prelude.{◌≡◌, ℕ, Bool, true, false, List, [], ◌∷◌, ◌++◌, slice_get}
use Rattle.std.specs.Prelude.{filter, Option, Some}
use Rattle.std.specs.Option.{option_map, option_map_or, option_and_then, option_cmp}
use Rattle.std.specs.Ordering.{nat_cmp, ordering_then}
use Rattle.std.specs.declared.cmp.Ordering.{Ordering}
use Rattle.std.specs.BTreeMap.{BTreeMap, get}
use Rattle.pol_names.specs.declared.subject_id.SubjectId.{SubjectId}
use Rattle.pol_text.specs.declared.subject.Subject.{Subject}
use Rattle.pol_text.specs.Policy.{Entry, entries, find_subject, first_entry}
use Rattle.pol_meaning.specs.Reach.{IsLeastIfAny, AreReached, unreached}
use Rattle.pol_meaning.specs.LineChanges.{is_permit, is_change, IsChangeOf}
use Rattle.pol_meaning.specs.declared.Changed.{Changed}
use Rattle.pol_meaning.specs.declared.Reached.{Reached}
use Rattle.pol_meaning.specs.declared.Shadowed.{Shadowed}
use Rattle.pol_report.specs.declared.difference.Difference.{Difference}

-- the rules along the chain of a subject, or of the one at a place, if it is there
abbrev pub along : List Subject → SubjectId → Option (List Entry)
along policy id = option_map (entries policy) (find_subject id policy)

abbrev pub along_at : List Subject → Option ℕ → Option (List Entry)
along_at policy place = option_map (entries policy) (option_and_then (slice_get policy) place)

-- ---- what differs

-- whether these rules permit the line; who has no chain may do nothing
abbrev pub permits_along : Option (List Entry) → List ℕ → Bool
permits_along rules line =
    option_map_or (λ rules. is_permit (first_entry rules line).verdict) rules false

-- the first rules deny the line, and the second permit it
abbrev pub IsGainedAlong : Option (List Entry) → Option (List Entry) → List ℕ → Type 0
IsGainedAlong before after line =
    (permits_along before line ≡ false) × (permits_along after line ≡ true)

-- the least line that is permitted now and was denied, and the least the other way
pub record IsDifference (before after : Option (List Entry)) (difference : Difference)
    : Type 0 where
  pub permits_is : IsLeastIfAny (IsGainedAlong before after) difference.permits
  pub denies_is : IsLeastIfAny (IsGainedAlong after before) difference.denies

-- the order of two pairs of places: one in the old policy, if any, and one in the new one, if any
abbrev pub by_places : Option ℕ × Option ℕ → Option ℕ × Option ℕ → Ordering
by_places a b = ordering_then (option_cmp nat_cmp a.0 b.0) (option_cmp nat_cmp a.1 b.1)

-- what is remembered under two places differs for those who had their rules by the subject at the
-- first and have them by the one at the second
abbrev pub AreKnown : List Subject → List Subject → BTreeMap (Option ℕ × Option ℕ) Difference
    → Type 0
AreKnown before after known = (places : Option ℕ × Option ℕ) (found : Difference)
    → get by_places known places ≡ Some found
    → IsDifference (along_at before places.0) (along_at after places.1) found

-- what changes for the user is listed after the others, if anything does
pub record IsListed (before after : List Subject) (user : List ℕ) (old new : List Changed)
    : Type 0 where
  pub changed : Changed
  pub change : IsChangeOf before after user changed
  pub listed : new ≡ old ++ filter is_change (changed ∷ [])

-- ---- rules that decide nothing

-- the same rule, reported for another subject
abbrev pub told_for : SubjectId → Shadowed → Shadowed
told_for subject rule = record { subject = subject; owner = rule.owner; number = rule.number }

-- those that no line reaches of these rules, reported for some subject
pub record AreUnreached (rules : List Entry) (found : List Shadowed) : Type 0 where
  pub subject : SubjectId
  pub rows : List Reached
  pub reached : AreReached rules rows
  pub listed : found ≡ unreached subject rows

-- those of these rules are added for the subject
pub record AreTold (rules : List Entry) (subject : SubjectId) (old new : List Shadowed)
    : Type 0 where
  pub rows : List Reached
  pub reached : AreReached rules rows
  pub told : new ≡ old ++ unreached subject rows

-- what is remembered under a place are those of the subject there
abbrev pub AreFound : List Subject → BTreeMap ℕ (List Shadowed) → Type 0
AreFound policy known = (place : ℕ) (found : List Shadowed) → get nat_cmp known place ≡ Some found
    → AreUnreached (option_map_or (λ rules. rules) (along_at policy (Some place)) []) found
