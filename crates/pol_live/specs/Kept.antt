-- What is kept of a policy: automata of the rules of single subjects, and of all rules along their
-- chains. Subjects and policies may share one.
use Rattle.std.specs.Prelude.{◌≡◌, ◌<◌, ℕ, Bool, true, not, ◌||◌, nat_lt, List, [], ◌∷◌}
use Rattle.std.specs.Prelude.{length, map, slice_get, slice_set, is_some, IsTrue}
use Rattle.std.specs.Prelude.{Option, Some, None, if◌then◌else◌}
use Rattle.std.specs.Option.{option_and_then}
use Rattle.pol_automaton.specs.Automaton.{Automaton, IsDecider}
use Rattle.pol_residual.specs.Residuals.{HasMoreResiduals}
use Rattle.pol_names.specs.declared.subject_id.SubjectId.{SubjectId}
use Rattle.pol_text.specs.declared.subject.Subject.{Subject}
use Rattle.pol_text.specs.Policy.{find_subject, parent_of, chain}
use Rattle.pol_live.specs.declared.parts.Parts.{Parts}
use Rattle.pol_meaning.specs.Along.{patterns_along}
use Rattle.pol_meaning.specs.Sizes.{most_residuals}

-- ---- keepers: the subjects that have automata of their own

abbrev pub has_rules : Subject → Bool
has_rules subject = nat_lt 0 (length subject.rules)

-- a subject that has rules, or no group to inherit them from
abbrev pub is_keeper : Subject → Bool
is_keeper subject = has_rules subject || not (is_some subject.parent)

-- the first of these that is a keeper
abbrev pub first_keeper : List Subject → Option Subject
first_keeper [] = None
first_keeper (subject ∷ rest) = if is_keeper subject then Some subject else first_keeper rest

-- the keeper by whose automaton a subject's lines are decided: itself, or the nearest above it
abbrev pub keeper_of : List Subject → SubjectId → Option Subject
keeper_of policy id =
    option_and_then (λ subject. first_keeper (chain policy subject)) (find_subject id policy)

-- ---- automata and what they are of

abbrev pub own_patterns : Subject → List (List ℕ)
own_patterns subject = map (λ rule. rule.pattern) subject.rules

-- the automaton is the Decider of these entries, which haven't too many residuals
abbrev pub IsFit : List (List ℕ) → Automaton → Type 0
IsFit entries decider = IsDecider decider entries × (¬ (HasMoreResiduals entries most_residuals))

-- what there is at a place, if there is anything
abbrev pub slot : {X : Type 0} → List (Option X) → ℕ → Option X
slot slots k = option_and_then (λ found. found) (slice_get slots k)

-- what there is of a policy's automata: of a subject's own rules, and of those along its chain
pub record AreParts (policy : List Subject) (parts : Parts) : Type 0 where
  pub many_owns : length parts.owns ≡ length policy
  pub many_wholes : length parts.wholes ≡ length policy
  pub owns : (k : ℕ) (subject : Subject) (decider : Automaton) → slice_get policy k ≡ Some subject
      → slot parts.owns k ≡ Some decider
      → IsFit (own_patterns subject) decider × (is_keeper subject ≡ true)
  pub wholes : (k : ℕ) (subject : Subject) (decider : Automaton) → slice_get policy k ≡ Some subject
      → slot parts.wholes k ≡ Some decider
      → IsFit (patterns_along policy subject) decider

-- where each subject's group stands
abbrev pub AreParents : List Subject → List (Option ℕ) → Type 0
AreParents policy parents = (k : ℕ) (subject : Subject) → slice_get policy k ≡ Some subject
    → option_and_then (slice_get policy) (slot parents k) ≡ parent_of policy subject

-- each automaton that there was stays
abbrev pub Stays : List (Option Automaton) → List (Option Automaton) → Type 0
Stays old new = (k : ℕ) (decider : Automaton)
    → slot old k ≡ Some decider → slot new k ≡ Some decider

abbrev pub Grows : Parts → Parts → Type 0
Grows old new = Stays old.owns new.owns × Stays old.wholes new.wholes

-- what there is at a place is of these entries, and without an automaton there are none
abbrev pub IsOf : List (List ℕ) → Option Automaton → Type 0
IsOf entries None = entries ≡ []
IsOf entries (Some decider) = IsFit entries decider

-- the place then has an automaton of these entries, and all others are as they were
abbrev pub IsPutAt : ℕ → List (List ℕ) → List (Option Automaton) → List (Option Automaton) → Type 0
IsPutAt at entries old new =
    (decider : Automaton) × IsFit entries decider × (new ≡ slice_set old at (Some decider))

-- each subject has the automaton of its chain, and each keeper its own
abbrev pub AreAll : List Subject → Parts → Type 0
AreAll policy parts = (k : ℕ) → k < length policy → IsTrue (is_some (slot parts.wholes k))

abbrev pub HaveKeepers : List Subject → Parts → Type 0
HaveKeepers policy parts = (k : ℕ) (subject : Subject) → slice_get policy k ≡ Some subject
    → is_keeper subject ≡ true → IsTrue (is_some (slot parts.owns k))
