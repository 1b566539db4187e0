-- What is called at a hall, which answers are right, and legal histories of calls.
use Rattle.std.specs.Prelude.{◌≡◌, ℕ, List, [], ◌∷◌, ◌++◌, Bool, true, false, ◌||◌, Result, Ok, Err}
use Rattle.std.specs.Prelude.{Option, Some, None}
use Rattle.std.specs.Prelude.{OnErr, IsTrue}
use Rattle.pol_edit.specs.Applying.{is_memory}
use Rattle.pol_edit.specs.Batches.{ran_out}
use Rattle.pol_edit.specs.declared.batching.BatchFault.{BatchFault}
use Rattle.pol_edit.specs.declared.edit.Edit.{Edit}
use Rattle.pol_edit.specs.declared.fault.EditFault.{EditFault}
use Rattle.pol_meaning.specs.declared.Changes.{Changes}
use Rattle.pol_text.specs.declared.subject.Subject.{Subject}
use Rattle.tac_conn.specs.Ask.{kind_of_ask, kind_of_answer}
use Rattle.tac_conn.specs.declared.ask.Answer.{Answer}
use Rattle.tac_conn.specs.declared.ask.Ask.{Ask}
use Rattle.tac_desk.specs.declared.query.Query.{Query}
use Rattle.tac_desk.specs.declared.query.QueryFault.{QueryFault}
use Rattle.tac_desk.specs.declared.query.Report.{Report}
use Rattle.tac_desk.specs.Meaning.{Meaning}
use Rattle.tac_desk.specs.Asking.{asked}
use Rattle.pol_meaning.specs.Memory.{UnlessMemory}
use Rattle.tac_desk.specs.Editing as editing
use Rattle.tac_desk.specs.Reporting as reporting
use Rattle.tac_hall.specs.declared.call.Call.{Call}
use Rattle.tac_hall.specs.declared.call.Call.TheVariants as calls
use Rattle.tac_hall.specs.declared.call.CallAnswer.{CallAnswer}
use Rattle.tac_hall.specs.declared.call.CallAnswer.TheVariants as answers

-- ---- one call

-- an edit was answered so; where memory ran out it may be refused, which changes nothing
abbrev pub AnswersEdit : Meaning → Edit → Result Changes EditFault → Meaning → Type 0
AnswersEdit was edit answer now =
    UnlessMemory is_memory answer (editing.Edits was edit answer now) × OnErr answer (now ≡ was)

-- so were edits that are made together
abbrev pub AnswersBatch : Meaning → List Edit → Result Changes BatchFault → Meaning → Type 0
AnswersBatch was edits answer now =
    UnlessMemory ran_out answer (editing.EditsAll was edits answer now) × OnErr answer (now ≡ was)

-- so was another policy, in the place of the present one
abbrev pub AnswersLoad : Meaning → List Subject → Result Changes EditFault → Meaning → Type 0
AnswersLoad was policy answer now =
    UnlessMemory is_memory answer (editing.Loads was policy answer now) × OnErr answer (now ≡ was)

-- a question was answered so, or memory ran out
abbrev pub AnswersQuery : Meaning → Query → Result Report QueryFault → Meaning → Type 0
AnswersQuery was query answer now =
    UnlessMemory reporting.is_memory answer (reporting.Reports was query answer) × (now ≡ was)

-- a desk that represented the one meaning answers the call so, and represents the other
-- from then on; an answer is of
-- its call's kind
abbrev pub Answers : Meaning → Call → CallAnswer → Meaning → Type 0
Answers was (calls.Ask ask) (answers.Ask answer) now =
    (answer ≡ (asked was ask).answer) × (now ≡ (asked was ask).meaning)
Answers was (calls.Edit edit) (answers.Edit answer) now = AnswersEdit was edit answer now
Answers was (calls.Batch edits) (answers.Batch answer) now = AnswersBatch was edits answer now
Answers was (calls.Load policy) (answers.Edit answer) now = AnswersLoad was policy answer now
Answers was (calls.Query query) (answers.Query answer) now = AnswersQuery was query answer now
Answers was calls.Stop answers.Stopped now = now ≡ was
Answers was call answer now = ⊥

-- the answer is one to this call
abbrev pub IsReportTo : Query → Result Report QueryFault → Type 0
IsReportTo query (Ok report) = IsTrue (reporting.is_report_to query report)
IsReportTo query (Err fault) = Unit {0}

abbrev pub IsOfKind : Call → CallAnswer → Type 0
IsOfKind (calls.Ask ask) (answers.Ask answer) = kind_of_answer answer ≡ kind_of_ask ask
IsOfKind (calls.Edit edit) (answers.Edit answer) = Unit {0}
IsOfKind (calls.Batch edits) (answers.Batch answer) = Unit {0}
IsOfKind (calls.Load policy) (answers.Edit answer) = Unit {0}
IsOfKind (calls.Query query) (answers.Query answer) = IsReportTo query answer
IsOfKind calls.Stop answers.Stopped = Unit {0}
IsOfKind call answer = ⊥

-- the desk's answer, if an ask was called
abbrev pub asked_answer : CallAnswer → Option Answer
asked_answer (answers.Ask answer) = Some answer
asked_answer answer = None

-- what a connection asked, if that was called
abbrev pub asked_in : Call → Option Ask
asked_in (calls.Ask ask) = Some ask
asked_in call = None

-- ---- one call after another

-- a call in a log: the number of the seat that made it, and its answer
pub record Entry : Type 0 where
  pub seat : ℕ
  pub call : Call
  pub answer : CallAnswer

abbrev pub is_stop : Call → Bool
is_stop (calls.Ask ask) = false
is_stop (calls.Edit edit) = false
is_stop (calls.Batch edits) = false
is_stop (calls.Load policy) = false
is_stop (calls.Query query) = false
is_stop calls.Stop = true

abbrev pub is_ask : Call → Bool
is_ask (calls.Ask ask) = true
is_ask (calls.Edit edit) = false
is_ask (calls.Batch edits) = false
is_ask (calls.Load policy) = false
is_ask (calls.Query query) = false
is_ask calls.Stop = false

-- whether there was a Stop
abbrev pub is_closed : List Entry → Bool
is_closed [] = false
is_closed (entry ∷ entries) = is_stop entry.call || is_closed entries

-- a desk that represented the base took these calls, answered each by what it represented then, and
-- represents this after the last of them; a Stop is the last
pub data Legal (base : Meaning) : List Entry → Meaning → Type 0 where
  at_first : Legal base [] base
  and_then : {log : List Entry} {was now : Meaning} (entry : Entry) → Legal base log was
      → is_closed log ≡ false
      → Answers was entry.call entry.answer now → Legal base (log ++ entry ∷ []) now
