-- What is told of a policy's text, and how that ends (docs/LINT.md). What is asked about a policy
-- that may stand is a matter of taste, and isn't defined.
use Rattle.std.specs.Prelude.{◌≡◌, ℕ, List, [], ◌∷◌, ◌++◌, codes, Bool, true, false, Result}
use Rattle.std.specs.Prelude.{Ok, Err}
use Rattle.std.specs.List.{flat_map}
use Rattle.std.specs.Fmt.{decimal}
use Rattle.pol_text.specs.declared.subject.Subject.{Subject}
use Rattle.pol_live.specs.declared.judging.TextRefusal.{TextRefusal}
use Rattle.pol_live.specs.declared.judging.TextRefusal.TheVariants.{NoPolicy, TooLarge}
use Rattle.pol_words.specs.FindingText.{finding_text}
use Rattle.pol_words.specs.Plain.{Alike}
use Rattle.pol_words.specs.declared.remark.Remark.{Remark}
use Rattle.pol_faults.specs.Chains.{text_faults}
use Rattle.pol_faults.specs.Sizes.{TellsSize}
use Rattle.pol_habits.specs.Questions.{question_text}
use Rattle.pol_habits.specs.declared.question.Asked.{Asked}
use Rattle.tac_review.specs.Judged.{ByJudged}
use Rattle.tac_review.specs.declared.linting.LintEnd.{LintEnd}
use Rattle.tac_review.specs.declared.linting.LintEnd.TheVariants.{Quiet, Told, Refused}

-- `line N column M: TEXT`
abbrev pub placed_line : ℕ → ℕ → List ℕ → List ℕ
placed_line line column text =
    codes "line " ++ decimal line ++ codes " column " ++ decimal column ++ codes ": " ++ text
    ++ 10 ∷ []

-- ---- a policy that may stand

abbrev pub asked_line : Asked → List ℕ
asked_line asked = placed_line asked.line asked.column (question_text asked.question)

abbrev pub asked_text : List Asked → List ℕ
asked_text asked = flat_map asked_line asked

abbrev pub end_of : List Asked → LintEnd
end_of [] = Quiet
end_of (one ∷ more) = Told

-- a line for each question, and the end says whether there is any
abbrev pub Asks : List ℕ → LintEnd → Type 0
Asks output end =
    (asked : List Asked) × (output ≡ asked_text asked) × (end ≡ end_of asked)

-- ---- a text that is refused

abbrev pub remark_line : Remark → List ℕ
remark_line remark = placed_line remark.line remark.column (finding_text remark.finding)

abbrev pub remarks_text : List Remark → List ℕ
remarks_text remarks = flat_map remark_line remarks

-- all that is wrong with it
abbrev pub Faults : List ℕ → TextRefusal → List Remark → Type 0
Faults text (NoPolicy line refusal) remarks = Alike remarks (text_faults text line refusal)
Faults text (TooLarge subject) remarks = TellsSize text subject remarks

-- ---- a text, by how it is judged

abbrev pub Tells : List ℕ → Result (List Subject) TextRefusal → List ℕ → LintEnd → Type 0
Tells text (Ok policy) output end = Asks output end
Tells text (Err refusal) output end =
    (remarks : List Remark) × Faults text refusal remarks × (output ≡ remarks_text remarks)
    × (end ≡ Refused)

-- what is printed of a text is this, and it ends so
abbrev pub IsLint : List ℕ → List ℕ → LintEnd → Type 0
IsLint text output end = ByJudged (Tells text) text output end

abbrev pub is_refused : LintEnd → Bool
is_refused Refused = true
is_refused _ = false

-- that was worked out, and each end of this text says the same of whether it is refused
pub record IsOnlyLint (text output : List ℕ) (end : LintEnd) : Type 0 where
  pub wanted : IsLint text output end
  pub only : (other : List ℕ) (last : LintEnd) → IsLint text other last
      → is_refused last ≡ is_refused end
