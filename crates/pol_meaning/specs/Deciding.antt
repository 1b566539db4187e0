-- What a policy permits, by the sets of its patterns (docs/DEFINITIONS.md, "The policy").
use Rattle.std.specs.Prelude.{◌≡◌, ◌↔◌, ◌⊎◌, ℕ, true, IsTrue, List, [], ◌∷◌, Some}
use Rattle.basics.specs.Symbol.{is_text}
use Rattle.pol_pattern.specs.Spelling.{Holds}
use Rattle.pol_names.specs.SubjectId.{user_id}
use Rattle.pol_names.specs.declared.decision.Verdict.TheVariants.{Permit}
use Rattle.pol_text.specs.declared.subject.Subject.{Subject}
use Rattle.pol_text.specs.Policy.{find_subject, Entry, entries}
use Rattle.pol_meaning.specs.LineChanges.{permits}

-- the first of these entries whose set holds the line permits it
abbrev pub PermitsFirst : List Entry → List ℕ → Type 0
PermitsFirst [] line = ⊥
PermitsFirst (entry ∷ rest) line =
    (Holds entry.rule.pattern line × (entry.rule.verdict ≡ Permit))
    ⊎ ((¬ (Holds entry.rule.pattern line)) × PermitsFirst rest line)

-- the user is there, and the rules along his chain permit the line
abbrev pub IsPermitted : List Subject → List ℕ → List ℕ → Type 0
IsPermitted policy user line =
    (subject : Subject) × (find_subject (user_id user) policy ≡ Some subject)
    × PermitsFirst (entries policy subject) line

-- a line is permitted exactly so; and what is permitted is a text
pub record DecisionLaw : Type 0 where
  pub permitted : (policy : List Subject) (user line : List ℕ)
      → (permits policy user line ≡ true) ↔ IsPermitted policy user line
  pub texts : (policy : List Subject) (user line : List ℕ)
      → permits policy user line ≡ true → IsTrue (is_text line)
