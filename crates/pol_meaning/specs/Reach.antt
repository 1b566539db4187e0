-- By which lines the rules along a subject's chain are reached. Nothing here speaks of automata.
use Rattle.std.specs.Prelude.{◌≡◌, ℕ, zero, suc, IsTrue, false, is_some, not, List, [], ◌∷◌, ◌++◌}
use Rattle.std.specs.Prelude.{length, map, filter, slice_get, Option, Some, None}
use Rattle.basics.specs.TextOrder.{IsLeast}
use Rattle.pol_pattern.specs.Matching.{matches}
use Rattle.pol_names.specs.declared.subject_id.SubjectId.{SubjectId}
use Rattle.pol_text.specs.declared.subject.Subject.{Subject}
use Rattle.pol_text.specs.Policy.{id_of, Entry}
use Rattle.pol_meaning.specs.Along.{entries_of}
use Rattle.pol_meaning.specs.declared.Shadowed.{Shadowed}
use Rattle.pol_meaning.specs.declared.Reached.{Reached}

-- of the rules along a chain the one at this place, counted from 0, decides the line: it is the
-- first that matches
abbrev pub IsDecidedAt : List Entry → ℕ → List ℕ → Type 0
IsDecidedAt [] place line = ⊥
IsDecidedAt (entry ∷ rest) zero line = IsTrue (matches entry.rule.pattern line)
IsDecidedAt (entry ∷ rest) (suc place) line =
    (matches entry.rule.pattern line ≡ false) × IsDecidedAt rest place line

-- the least line of which the fact holds, or nothing where it holds of none
abbrev pub IsLeastIfAny : (List ℕ → Type 0) → Option (List ℕ) → Type 0
IsLeastIfAny fact (Some line) = IsLeast fact line
IsLeastIfAny fact None = (line : List ℕ) → ¬ (fact line)

-- a rule along a chain is reported with the least line that it decides
pub record IsReached (along : List Entry) (place : ℕ) (entry : Entry) (reached : Reached)
    : Type 0 where
  pub owner : reached.owner ≡ entry.owner
  pub number : reached.number ≡ entry.number
  pub text : IsLeastIfAny (IsDecidedAt along place) reached.text

-- all rules along a chain, in order
pub record AreReached (along : List Entry) (rows : List Reached) : Type 0 where
  pub many : length rows ≡ length along
  pub each : (place : ℕ) (entry : Entry) (reached : Reached) → slice_get along place ≡ Some entry
      → slice_get rows place ≡ Some reached → IsReached along place entry reached

-- ---- rules that decide nothing

abbrev pub shadowed_row : SubjectId → Reached → Shadowed
shadowed_row subject row = record { subject = subject; owner = row.owner; number = row.number }

-- of a subject's rows, those that no line reaches
abbrev pub unreached : SubjectId → List Reached → List Shadowed
unreached subject rows = map (shadowed_row subject) (filter (λ row. not (is_some row.text)) rows)

-- of the chain of each of these subjects, in order, the rules that no line reaches
abbrev pub ShadowsOf : List Subject → List Subject → List Shadowed → Type 0
ShadowsOf policy [] shadows = shadows ≡ []
ShadowsOf policy (subject ∷ rest) shadows =
    (rows : List Reached) × (later : List Shadowed)
    × AreReached (entries_of policy (id_of subject)) rows × ShadowsOf policy rest later
    × (shadows ≡ unreached (id_of subject) rows ++ later)

abbrev pub Shadows : List Subject → List Shadowed → Type 0
Shadows policy shadows = ShadowsOf policy policy shadows
