-- What the console of a server answers to a line (docs/CONSOLE.md).
use Rattle.std.specs.Prelude.{◌≡◌, ℕ, List, Option, Result, Ok}
use Rattle.pol_edit.specs.declared.edit.Edit.{Edit}
use Rattle.pol_edit.specs.declared.fault.EditFault.{EditFault}
use Rattle.pol_edit.specs.declared.batching.BatchFault.{BatchFault}
use Rattle.pol_meaning.specs.declared.Changes.{Changes}
use Rattle.tac_desk.specs.Meaning.{Meaning}
use Rattle.tac_desk.specs.Editing.{Edits, EditsAll}
use Rattle.tac_desk.specs.Reporting.{Reports}
use Rattle.tac_desk.specs.declared.query.Query.{Query}
use Rattle.tac_desk.specs.declared.query.QueryFault.{QueryFault}
use Rattle.tac_desk.specs.declared.query.Report.{Report}
use Rattle.tac_console.specs.Answers.{edit_answer, batch_answer, query_answer, notice_text}
use Rattle.tac_console.specs.Batching.{action_of}
use Rattle.tac_console.specs.ConsoleText.{asked_by}
use Rattle.tac_console.specs.declared.batching.Action.{Action}
use Rattle.tac_console.specs.declared.batching.Action.TheVariants as acts

-- the text is how the desk's answer to the edit is printed
pub record AnswersEdit (before : Meaning) (edit : Edit) (text : List ℕ) (after : Meaning)
    : Type 0 where
  pub answer : Result Changes EditFault
  pub edits : Edits before edit answer after
  pub is : text ≡ edit_answer answer

-- the text is how the desk's answer to the edits of a batch is printed
pub record AnswersBatch (before : Meaning) (kept : List Edit) (text : List ℕ) (after : Meaning)
    : Type 0 where
  pub answer : Result Changes BatchFault
  pub edits : EditsAll before kept answer after
  pub is : text ≡ batch_answer answer

-- the text is how the desk's answer to the question is printed
pub record AnswersQuery (before : Meaning) (query : Query) (text : List ℕ) (after : Meaning)
    : Type 0 where
  pub answer : Result Report QueryFault
  pub reports : Reports before query answer
  pub is : text ≡ query_answer query answer
  pub same : after ≡ before

-- what is to be done for a line is done, and this is its answer
abbrev pub AnswersAction : Meaning → Action → List ℕ → Meaning → Type 0
AnswersAction before (acts.Edit edit) text after = AnswersEdit before edit text after
AnswersAction before (acts.Commit kept) text after = AnswersBatch before kept text after
AnswersAction before (acts.Query query) text after = AnswersQuery before query text after
AnswersAction before (acts.Tell notice) text after =
    (text ≡ notice_text notice) × (after ≡ before)

-- the text is the answer to the line, and the desk represents this from then on; the batch that is
-- open before the line says whether an edit is made or kept
abbrev pub Answers : Meaning → Option (List Edit) → List ℕ → List ℕ → Meaning → Type 0
Answers before batch line text after =
    AnswersAction before (action_of batch (asked_by line)) text after

-- ---- what is accepted

-- edits are to be made, and the desk takes them
abbrev pub AcceptsAction : Meaning → Action → Meaning → Type 0
AcceptsAction before (acts.Edit edit) after =
    (changes : Changes) × Edits before edit (Ok changes) after
AcceptsAction before (acts.Commit kept) after =
    (changes : Changes) × EditsAll before kept (Ok changes) after
AcceptsAction before (acts.Query query) after = ⊥
AcceptsAction before (acts.Tell notice) after = ⊥

-- the line is an edit that the desk takes, or commits a batch that it takes
abbrev pub Accepts : Meaning → Option (List Edit) → List ℕ → Meaning → Type 0
Accepts before batch line after = AcceptsAction before (action_of batch (asked_by line)) after
