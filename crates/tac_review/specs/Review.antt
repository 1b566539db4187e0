-- What a review of two inputs prints, and how it ends (docs/REVIEW.md). The first is a policy.
use Rattle.std.specs.Prelude.{◌≡◌, ℕ, List, [], ◌∷◌, ◌++◌, codes, Option, Some, None, Result, Ok}
use Rattle.std.specs.Prelude.{Err}
use Rattle.std.specs.List.{flat_map}
use Rattle.basics.specs.Lines.{lines_of}
use Rattle.pol_text.specs.declared.subject.Subject.{Subject}
use Rattle.pol_meaning.specs.Changes.{AreChanges}
use Rattle.pol_meaning.specs.declared.Changed.{Changed}
use Rattle.pol_meaning.specs.declared.Changes.{Changes}
use Rattle.pol_meaning.specs.declared.ServiceChange.{ServiceChange}
use Rattle.pol_secrets.specs.Altering.{secret_changes}
use Rattle.pol_secrets.specs.Telling.{secret_lines}
use Rattle.pol_secrets.specs.declared.secret_change.SecretChange.{SecretChange}
use Rattle.tac_desk.specs.declared.query.Query.{Query}
use Rattle.tac_console.specs.Answers.{changed_lines}
use Rattle.tac_console.specs.ServiceAnswers.{service_lines}
use Rattle.tac_console.specs.Faults.{fault_line}
use Rattle.pol_live.specs.declared.judging.TextRefusal.{TextRefusal}
use Rattle.tac_review.specs.Judged.{refusal_line, ByJudged, IsOnly}
use Rattle.tac_review.specs.Asking.{question_of, service_question_of, answer_to, permission_of}
use Rattle.tac_review.specs.Tables as tables
use Rattle.tac_review.specs.Loading.{Loads}
use Rattle.tac_review.specs.declared.task.Review.{Review}
use Rattle.tac_review.specs.declared.task.Review.TheVariants.{Diff, Edits, Why, Given, Each}
use Rattle.tac_review.specs.declared.task.ReviewEnd.{ReviewEnd}
use Rattle.tac_review.specs.declared.task.ReviewEnd.TheVariants.{Done, Differs, BadPolicy, Refused}
use Rattle.tac_review.specs.declared.task.ReviewEnd.TheVariants.{Answered}
use Rattle.tac_review.specs.declared.task.Input.{Input}
use Rattle.tac_review.specs.declared.task.Input.TheVariants.{First, Second}
use Rattle.tac_review.specs.declared.task.Table.{Table}

-- the line that refuses an input, after the input's name
abbrev pub named : List ℕ → List ℕ → List ℕ
named name line = name ++ codes ": " ++ line

-- that is printed of an input whose text is refused
abbrev pub IsRefused : Input → List ℕ → TextRefusal → List ℕ → ReviewEnd → Type 0
IsRefused input name refusal output end =
    (output ≡ named name (refusal_line refusal)) × (end ≡ BadPolicy input)

-- ---- what a new policy changes

-- as an accepted edit is answered, after its `ok`, and then what became of secrets
abbrev pub told_text : List Changed → List ServiceChange → List SecretChange → List ℕ
told_text [] [] [] = codes "same" ++ 10 ∷ []
told_text lines services secrets =
    flat_map changed_lines lines ++ flat_map service_lines services ++ secret_lines secrets

abbrev pub changes_text : Changes → List SecretChange → List ℕ
changes_text changes secrets = told_text changes.lines changes.services secrets

abbrev pub told_end : List Changed → List ServiceChange → List SecretChange → ReviewEnd
told_end [] [] [] = Done
told_end lines services secrets = Differs

abbrev pub changes_end : Changes → List SecretChange → ReviewEnd
changes_end changes secrets = told_end changes.lines changes.services secrets

-- that is printed of what the new policy changes against the old one
abbrev pub ChangesTo : List Subject → List Subject → List ℕ → ReviewEnd → Type 0
ChangesTo old new output end =
    (changes : Changes) × AreChanges old new changes
    × (output ≡ changes_text changes (secret_changes old new))
    × (end ≡ changes_end changes (secret_changes old new))

abbrev pub DiffsTo : List ℕ → List Subject → Result (List Subject) TextRefusal → List ℕ → ReviewEnd
    → Type 0
DiffsTo name old (Err refusal) output end = IsRefused Second name refusal output end
DiffsTo name old (Ok new) output end = ChangesTo old new output end

-- the exact changes between the policies, if the new one may stand
abbrev pub Diffs : List ℕ → List ℕ → List Subject → List ℕ → ReviewEnd → Type 0
Diffs name text old output end = ByJudged (DiffsTo name old) text output end

-- ---- which edits make a new policy

abbrev pub EditsTo : List Subject → List ℕ → Result (List Subject) TextRefusal → List ℕ → ReviewEnd
    → Type 0
EditsTo old name (Err refusal) output end = IsRefused Second name refusal output end
EditsTo old name (Ok new) output end = Loads old new output end

-- the edits in batches, if the new policy may stand
abbrev pub ListsEdits : List ℕ → List ℕ → List Subject → List ℕ → ReviewEnd → Type 0
ListsEdits name text old output end = ByJudged (EditsTo old name) text output end

-- ---- how a policy decides, and what it gives

abbrev pub Explains : List Subject → Option Query → List ℕ → ReviewEnd → Type 0
Explains policy None output end =
    (output ≡ fault_line (codes "BadQuestion")) × (end ≡ Refused)
Explains policy (Some query) output end =
    (output ≡ answer_to policy query) × (end ≡ Answered (permission_of policy query))

abbrev pub TellsOf : Table → List ℕ → Result (List ℕ) ℕ → List ℕ → ReviewEnd → Type 0
TellsOf table name (Err number) output end =
    (output ≡ named name (tables.fault table number)) × (end ≡ Refused)
TellsOf table name (Ok text) output end =
    (output ≡ tables.table_text table text) × (end ≡ tables.table_end table text)

abbrev pub Tells : Table → List ℕ → List ℕ → List Subject → List ℕ → ReviewEnd → Type 0
Tells table name text policy output end =
    TellsOf table name (tables.tells table policy 1 (lines_of text)) output end

-- ---- all reviews

-- where the first policy may stand, the second input is reviewed, which has this name and text
abbrev pub Continues : Review → List ℕ → List ℕ → List Subject → List ℕ → ReviewEnd → Type 0
Continues Diff name text policy output end = Diffs name text policy output end
Continues Edits name text policy output end = ListsEdits name text policy output end
Continues Why name text policy output end = Explains policy (question_of text) output end
Continues Given name text policy output end =
    Explains policy (service_question_of text) output end
Continues (Each table) name text policy output end = Tells table name text policy output end

abbrev pub ReviewsBy : Review → List ℕ → List ℕ → List ℕ → Result (List Subject) TextRefusal
    → List ℕ → ReviewEnd → Type 0
ReviewsBy review first second text (Err refusal) output end =
    IsRefused First first refusal output end
ReviewsBy review first second text (Ok policy) output end =
    Continues review second text policy output end

-- the review of the inputs with these names and texts prints this, and ends so
abbrev pub Reviews : Review → List ℕ → List ℕ → List ℕ → List ℕ → List ℕ → ReviewEnd → Type 0
Reviews review first second one two output end =
    ByJudged (ReviewsBy review first second two) one output end

-- ---- what a function returned, against what was wanted

-- that is wanted, and nothing else is; but of edits others would do as well
abbrev pub IsRight : Review → (List ℕ → ReviewEnd → Type 0) → List ℕ → ReviewEnd → Type 0
IsRight Edits Wanted output end = Wanted output end
IsRight review Wanted output end = IsOnly Wanted output end
