-- Which automata edits make anew, and another policy that takes the place of the present one.
use Rattle.std.specs.Prelude.{◌≡◌, ℕ, List, length, slice_get, Bool, true, false, not, ◌&&◌, ◌||◌}
use Rattle.std.specs.Prelude.{Option, Some, None, if◌then◌else◌}
use Rattle.std.specs.Cmp.Lexicographic.{pointwise}
use Rattle.std.specs.Option.{option_eq, option_map, option_map_or, option_and_then}
use Rattle.std.specs.Str.{bytes_eq}
use Rattle.pol_automaton.specs.Automaton.{Automaton}
use Rattle.std.specs.List.{list_any, filter_map}
use Rattle.pol_names.specs.SubjectId.{same_id, group_id, user_id}
use Rattle.pol_names.specs.declared.subject_id.SubjectId.{SubjectId}
use Rattle.pol_text.specs.declared.subject.Subject.{Subject}
use Rattle.pol_text.specs.Policy.{id_of, find_subject, chain, entries}
use Rattle.pol_text.specs.Same.{same_rule}
use Rattle.pol_edit.specs.declared.edit.Edit.{Edit}
use Rattle.pol_edit.specs.declared.edit.Edit.TheVariants.{AddGroup, AddUser, SetParent}
use Rattle.pol_edit.specs.declared.edit.Edit.TheVariants.{InsertRule, RemoveRule, MoveRule}
use Rattle.pol_live.specs.declared.touching.Touched.{Touched}
use Rattle.pol_live.specs.Kept.{has_rules, slot}

-- the subject whose rules or whose group an edit may change, also one that it adds. Secrets and
-- levels change no automaton, and whom an edit takes out is nobody's group
abbrev pub touches : Edit → Option SubjectId
touches (AddGroup name parent) = Some (group_id name)
touches (AddUser name parent) = Some (user_id name)
touches (SetParent subject parent) = Some subject
touches (InsertRule subject at verdict pattern) = Some subject
touches (RemoveRule subject at) = Some subject
touches (MoveRule subject from to) = Some subject
touches edit = None

-- the subject whose rules it may change: a move changes its group alone
abbrev pub rewrites : Edit → Option SubjectId
rewrites (SetParent subject parent) = None
rewrites edit = touches edit

-- those of several edits
abbrev pub touched_by : List Edit → Touched
touched_by edits =
    record { all = filter_map touches edits; rewritten = filter_map rewrites edits }

-- whether a subject was there with these rules
abbrev pub had_rules : List Subject → Subject → Bool
had_rules before subject = option_map_or (λ was. pointwise same_rule was.rules subject.rules)
    (find_subject (id_of subject) before) false

-- whether it was there with these rules and in this group
abbrev pub was_alike : List Subject → Subject → Bool
was_alike before subject = option_map_or (λ was. pointwise same_rule was.rules subject.rules
    && option_eq bytes_eq was.parent subject.parent) (find_subject (id_of subject) before) false

-- another policy touches those of its subjects that weren't there, or with other rules or in
-- another group; it rewrites those that weren't there with these rules
abbrev pub touched_between : List Subject → List Subject → Touched
touched_between before after = record {
  all =
      filter_map (λ subject. if was_alike before subject then None else Some (id_of subject)) after;
  rewritten =
      filter_map (λ subject. if had_rules before subject then None else Some (id_of subject)) after;
}

abbrev pub is_among : List SubjectId → Subject → Bool
is_among ids subject = list_any (λ id. same_id id (id_of subject)) ids

-- the automaton of a subject's own rules is made anew if these may have changed. Of a moved subject
-- that is left without rules it is made anew too, where it still needs one
abbrev pub renews_own : Touched → Subject → Bool
renews_own touched subject = is_among touched.rewritten subject
    || (is_among touched.all subject && not (has_rules subject))

-- whether one of these subjects is on a subject's chain
abbrev pub has_on_chain : List SubjectId → List Subject → Subject → Bool
has_on_chain ids policy subject = list_any (is_among ids) (chain policy subject)

-- that of its chain is made anew if a touched subject is on it
abbrev pub renews_chain : Touched → List Subject → Subject → Bool
renews_chain touched policy subject = has_on_chain touched.all policy subject

-- ---- what stays

-- a subject of the new policy that isn't touched was there, with these rules and in this group; one
-- whose rules weren't rewritten was there with these rules
pub record IsAlike (touched : Touched) (old new : List Subject) : Type 0 where
  pub untouched : (id : SubjectId) (subject : Subject) → find_subject id new ≡ Some subject
      → is_among touched.all subject ≡ false
      → (before : Subject) × (find_subject id old ≡ Some before)
      × (before.rules ≡ subject.rules) × (before.parent ≡ subject.parent)
  pub unwritten : (id : SubjectId) (subject : Subject) → find_subject id new ≡ Some subject
      → is_among touched.rewritten subject ≡ false
      → (before : Subject) × (find_subject id old ≡ Some before) × (before.rules ≡ subject.rules)

-- the rules along the chain of a subject of the new policy are as they were, if none of the touched
-- ones is on it
abbrev pub LeavesOthers : List SubjectId → List Subject → List Subject → Type 0
LeavesOthers touched old new = (id : SubjectId) (subject : Subject)
    → find_subject id new ≡ Some subject → has_on_chain touched new subject ≡ false
    → option_map (entries old) (find_subject id old) ≡ Some (entries new subject)

-- what is kept for a subject of the automata before: none where it is made anew, else that of the
-- subject of its kind and name
abbrev pub IsKept : Bool → List Subject → List (Option Automaton) → Subject → Option Automaton
    → Type 0
IsKept true before slots subject kept = kept ≡ None
IsKept false before slots subject kept = (at : Option ℕ)
    × (find_subject (id_of subject) before ≡ option_and_then (slice_get before) at)
    × (kept ≡ option_and_then (slot slots) at)

abbrev pub AreKept : (Subject → Bool) → List Subject → List (Option Automaton) → List Subject
    → List (Option Automaton) → Type 0
AreKept renewed before slots after kept = (length kept ≡ length after)
    × ((k : ℕ) (subject : Subject) → slice_get after k ≡ Some subject
    → IsKept (renewed subject) before slots subject (slot kept k))
