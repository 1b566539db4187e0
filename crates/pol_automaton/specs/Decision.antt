-- What is decided of a text: by the first entry whose set holds it. And the least texts of which
-- something is decided.
use Rattle.std.specs.Prelude.{◌≡◌, ◌↔◌, ◌<◌, ℕ, IsTrue, List, [], ◌++◌, length, All, Option, None}
use Rattle.std.specs.Prelude.{Some, slice_get, slice_index_or}
use Rattle.std.specs.Prelude.{unwrap_or}
use Rattle.basics.specs.Symbol.{is_text}
use Rattle.basics.specs.TextOrder.{IsLeast}
use Rattle.pol_pattern.specs.Spelling.{Holds}
use Rattle.pol_residual.specs.Residuals.{SameResiduals}
use Rattle.pol_names.specs.declared.decision.Verdict.{Verdict}
use Rattle.pol_names.specs.declared.decision.Verdict.TheVariants.{Permit, Deny}
use Rattle.pol_scan.specs.Alphabet.{IsTextThat}
use Rattle.pol_automaton.specs.declared.way.Way.{Way}
use Rattle.pol_automaton.specs.declared.way.Way.TheVariants.{NowPermitted, NowDenied}

abbrev pub entry_at : List (List ℕ) → ℕ → List ℕ
entry_at entries i = slice_index_or entries i []

-- the first entry, counted from 0, whose set holds the text; none where no entry's set does
abbrev pub IsFirstMatch : List (List ℕ) → List ℕ → Option ℕ → Type 0
IsFirstMatch entries text None = All (λ source. ¬ (Holds source text)) entries
IsFirstMatch entries text (Some i) = (i < length entries) × Holds (entry_at entries i) text
    × ((k : ℕ) → k < i → ¬ (Holds (entry_at entries k) text))

-- texts with the same residuals have the same first match, whatever text follows both
abbrev pub SameMatchLaw : Type 0
SameMatchLaw =
    (entries : List (List ℕ)) (text other rest : List ℕ) (first : Option ℕ)
    → IsTrue (is_text rest) → SameResiduals entries text other
    → IsFirstMatch entries (text ++ rest) first ↔ IsFirstMatch entries (other ++ rest) first

-- the texts that an entry decides, and the least of them
abbrev pub Decides : List (List ℕ) → ℕ → List ℕ → Type 0
Decides entries i = IsTextThat (λ text. IsFirstMatch entries text (Some i))

abbrev pub IsReachText : List (List ℕ) → ℕ → List ℕ → Type 0
IsReachText entries i text = IsLeast (Decides entries i) text

-- ---- verdicts: one for each entry; what no entry decides is denied

abbrev pub verdict_by : List Verdict → Option ℕ → Verdict
verdict_by verdicts None = Deny
verdict_by verdicts (Some i) = unwrap_or (slice_get verdicts i) Deny

abbrev pub IsDecided : List (List ℕ) → List Verdict → List ℕ → Verdict → Type 0
IsDecided entries verdicts text verdict = (first : Option ℕ) × IsFirstMatch entries text first
    × (verdict_by verdicts first ≡ verdict)

-- ---- changes

-- what was decided of a text, and what is, where it changed this way
abbrev pub verdict_before : Way → Verdict
verdict_before NowPermitted = Deny
verdict_before NowDenied = Permit

abbrev pub verdict_after : Way → Verdict
verdict_after NowPermitted = Permit
verdict_after NowDenied = Deny

-- entries and their verdicts
pub record Ruling : Type 0 where
  pub entries : List (List ℕ)
  pub verdicts : List Verdict

abbrev pub ruling : List (List ℕ) → List Verdict → Ruling
ruling entries verdicts = record { entries = entries; verdicts = verdicts }

-- the texts of which the decision changed this way, and the least of them
abbrev pub IsChanged : Ruling → Ruling → Way → List ℕ → Type 0
IsChanged old new way =
    IsTextThat (λ text. IsDecided old.entries old.verdicts text (verdict_before way)
    × IsDecided new.entries new.verdicts text (verdict_after way))

abbrev pub IsLeastChange : Ruling → Ruling → Way → List ℕ → Type 0
IsLeastChange old new way text = IsLeast (IsChanged old new way) text
