-- What is told of a text whose policy is too large (docs/LINT.md). Which of the rules along the
-- chain are told isn't defined: nobody works out which make it so large.
use Rattle.std.specs.Prelude.{◌≡◌, ℕ, ◌+◌, List, [], ◌∷◌, ◌++◌, length, nat_eq, All, Bool, true}
use Rattle.std.specs.Prelude.{false, ◌&&◌, ◌||◌, Option, Some, None, if◌then◌else◌}
use Rattle.std.specs.List.{list_any}
use Rattle.basics.specs.Lines.{lines_of}
use Rattle.pol_names.specs.SubjectId.{same_id}
use Rattle.pol_names.specs.declared.subject_id.SubjectId.{SubjectId}
use Rattle.pol_words.specs.Words.{words_in, keyword_of}
use Rattle.pol_words.specs.declared.words.Keyword.{Keyword}
use Rattle.pol_words.specs.declared.words.Keyword.TheVariants.{Rule}
use Rattle.pol_words.specs.declared.finding.Finding.TheVariants.{TooManyStates, AfterSearch}
use Rattle.pol_words.specs.declared.remark.Remark.{Remark}
use Rattle.pol_faults.specs.Chains.{subject_of, headings, heading_for, comes_to}
use Rattle.pol_faults.specs.declared.chains.Heading.{Heading}

-- the rules of this owner are along the chain of the subject that is too large
abbrev pub is_along : List Heading → Heading → SubjectId → Bool
is_along headings large owner =
    same_id large.id owner || comes_to (length headings) headings owner large.parent

abbrev pub along_by : List Heading → Heading → Bool → Option SubjectId → Bool
along_by headings large along None = along
along_by headings large along (Some owner) = is_along headings large owner

-- the same after a line, which may begin a subject
abbrev pub along_after : List Heading → Heading → Bool → List ℕ → Bool
along_after headings large along line = along_by headings large along (subject_of line)

abbrev pub is_rule : Keyword → Bool
is_rule Rule = true
is_rule _ = false

-- a line is a rule, where the rules are along the chain
abbrev pub is_rule_along : Bool → List ℕ → Bool
is_rule_along along line = is_rule (keyword_of (words_in line).0) && along

-- the numbers of such lines, of which the first has this number
abbrev pub rules_from : List Heading → Heading → Bool → ℕ → List (List ℕ) → List ℕ
rules_from headings large along number [] = []
rules_from headings large along number (line ∷ lines) =
    (if is_rule_along along line then number ∷ [] else [])
    ++ rules_from headings large (along_after headings large along line) (number + 1) lines

abbrev pub rules_along : List Heading → Heading → List (List ℕ) → List ℕ
rules_along headings large lines = rules_from headings large false 1 lines

-- a rule in a line of one of these numbers may double the states
abbrev pub IsSearch : List ℕ → Remark → Type 0
IsSearch numbers remark =
    (list_any (nat_eq remark.line) numbers ≡ true) × (remark.finding ≡ AfterSearch)

-- first that there are too many states, at the line of the subject, and then rules along its chain
abbrev pub Tells : List ℕ → List Heading → Option Heading → List Remark → Type 0
Tells text headings None remarks = remarks ≡ []
Tells text headings (Some large) remarks =
    (told : List Remark)
    × (remarks ≡ record { line = large.line; column = 1; finding = TooManyStates } ∷ told)
    × All (IsSearch (rules_along headings large (lines_of text))) told

-- of a text whose policy is refused since this subject has too many states
abbrev pub TellsSize : List ℕ → SubjectId → List Remark → Type 0
TellsSize text subject remarks =
    Tells text (headings 1 (lines_of text)) (heading_for (headings 1 (lines_of text)) subject)
    remarks
