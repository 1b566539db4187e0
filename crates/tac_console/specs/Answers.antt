-- How answers are printed (docs/CONSOLE.md). Every line ends in LF.
use Rattle.std.specs.Prelude.{ℕ, List, [], ◌∷◌, ◌++◌, codes, Option, Some, None, Result, Ok}
use Rattle.std.specs.Prelude.{Err}
use Rattle.std.specs.List.{flat_map}
use Rattle.std.specs.Option.{option_map_or}
use Rattle.std.specs.Fmt.{decimal}
use Rattle.std.specs.Borrow.{Bor}
use Rattle.pol_text.specs.Text.{text_of}
use Rattle.pol_names.specs.declared.decision.Decision.{Decision}
use Rattle.pol_names.specs.declared.subject_id.SubjectId.{SubjectId}
use Rattle.pol_names.specs.SubjectId.{subject_text}
use Rattle.pol_names.specs.Decision.{verdict_text, by_text}
use Rattle.pol_edit.specs.FaultText as edit_faults
use Rattle.pol_edit.specs.declared.batching.BatchFault.{BatchFault}
use Rattle.pol_edit.specs.declared.fault.EditFault.{EditFault}
use Rattle.pol_edit.specs.declared.fault.EditFault.TheVariants.{TooManyStates}
use Rattle.pol_meaning.specs.declared.Changed.{Changed}
use Rattle.pol_meaning.specs.declared.Changes.{Changes}
use Rattle.tac_request.specs.declared.record.AcctKind.{AcctKind}
use Rattle.tac_request.specs.declared.record.AcctKind.TheVariants.{Begin, Stop, Watch, Update}
use Rattle.tac_tally.specs.declared.tally.Tally.{Tally}
use Rattle.pol_given.specs.declared.grant.Given.{Given}
use Rattle.pol_given.specs.declared.grant.GivenArgument.{GivenArgument}
use Rattle.pol_given.specs.declared.grant.Grant.{Grant}
use Rattle.pol_given.specs.declared.grant.Grant.TheVariants as grants
use Rattle.tac_desk.specs.FaultText as query_faults
use Rattle.tac_desk.specs.declared.numbered.Numbered.{Numbered}
use Rattle.tac_desk.specs.declared.query.Query.{Query}
use Rattle.tac_desk.specs.declared.query.Query.TheVariants as queries
use Rattle.tac_desk.specs.declared.query.Report.{Report}
use Rattle.tac_desk.specs.declared.query.Report.TheVariants as reports
use Rattle.tac_desk.specs.declared.query.QueryFault.{QueryFault}
use Rattle.tac_console.specs.declared.batching.Notice.{Notice}
use Rattle.tac_console.specs.declared.batching.Notice.TheVariants as notices
use Rattle.tac_console.specs.Faults.{size_fault}
use Rattle.tac_console.specs.Percent.{percent_form}
use Rattle.tac_console.specs.Reports.{shadows_text, reach_text}
use Rattle.tac_console.specs.ServiceAnswers.{service_lines}

-- an answer whose value is lent
abbrev pub answer_lent : {A E : Type 0} → Result (Bor A) E → Result A E
answer_lent (Ok value) = Ok value.now
answer_lent (Err fault) = Err fault

-- a refusal's number and name, and what it adds
abbrev pub refused : List ℕ → List ℕ
refused fault = codes "refused " ++ fault ++ 10 ∷ []

abbrev pub done : List ℕ
done = codes "ok" ++ 10 ∷ []

-- ---- edits, and batches of them

-- a line where there is a text
abbrev pub change_line : List ℕ → List ℕ → Option (List ℕ) → List ℕ
change_line user what text =
    option_map_or (λ text. codes "user " ++ user ++ what ++ text ++ 10 ∷ []) text []

abbrev pub changed_lines : Changed → List ℕ
changed_lines changed =
    change_line changed.user (codes " now permits: ") changed.permits
    ++ change_line changed.user (codes " now denies: ") changed.denies

-- the lines of all users, and then what changes of their services
abbrev pub changes_text : Changes → List ℕ
changes_text changes =
    flat_map changed_lines changes.lines ++ flat_map service_lines changes.services

abbrev pub accepted : Changes → List ℕ
accepted changes = done ++ changes_text changes

abbrev pub edit_answer : Result Changes EditFault → List ℕ
edit_answer (Ok changes) = accepted changes
edit_answer (Err fault) = refused (edit_faults.fault_text fault)

-- another policy in the place of the present one is answered as an edit is; but one that is too
-- large is told as its check tells it
abbrev pub load_answer : Result Changes EditFault → List ℕ
load_answer (Err (TooManyStates subject)) = size_fault subject
load_answer answer = edit_answer answer

-- the changes are those of the whole batch; a refusal names the edit that is refused, if one is
abbrev pub batch_answer : Result Changes BatchFault → List ℕ
batch_answer (Ok changes) = accepted changes
batch_answer (Err fault) = refused (edit_faults.batch_fault_text fault)

-- what is answered where the desk isn't asked
abbrev pub notice_text : Notice → List ℕ
notice_text notices.Done = done
notice_text (notices.Kept number) = codes "kept " ++ decimal number ++ 10 ∷ []
notice_text (notices.Refused fault) = refused (edit_faults.fault_text fault)

-- ---- tallies

abbrev pub tally_line : SubjectId → Tally → List ℕ
tally_line subject tally =
    codes "tally " ++ subject_text subject ++ codes " starts " ++ decimal tally.starts
    ++ codes " stops " ++ decimal tally.stops
    ++ codes " watchdogs " ++ decimal tally.watchdogs ++ codes " updates " ++ decimal tally.updates
    ++ codes " open " ++ decimal tally.open_tasks ++ codes " elapsed " ++ decimal tally.elapsed
    ++ codes " drift " ++ decimal tally.drift ++ 10 ∷ []

abbrev pub tally_text : Query → Tally → List ℕ
tally_text (queries.Tally subject) tally = tally_line subject tally
tally_text _ tally = []

-- ---- decisions

abbrev pub why_line : Option Decision → List ℕ
why_line None = codes "unknown user" ++ 10 ∷ []
why_line (Some decision) = verdict_text decision.verdict ++ by_text decision.by ++ 10 ∷ []

-- ---- services

abbrev pub grant_line : Grant → List ℕ
grant_line grants.UnknownUser = why_line None
grant_line grants.Unserved = codes "unsupported service" ++ 10 ∷ []
grant_line (grants.Refused owner) = codes "refused by " ++ subject_text owner ++ 10 ∷ []
grant_line (grants.Granted owner) = codes "granted by " ++ subject_text owner ++ 10 ∷ []
grant_line (grants.Decided decision) = why_line (Some decision)

abbrev pub argument_line : GivenArgument → List ℕ
argument_line given =
    subject_text given.owner ++ codes " gives " ++ given.argument ++ 10 ∷ []

abbrev pub given_text : Given → List ℕ
given_text given = grant_line given.grant ++ flat_map argument_line given.arguments

-- ---- records

abbrev pub kind_text : AcctKind → List ℕ
kind_text Begin = codes "start"
kind_text Stop = codes "stop"
kind_text Watch = codes "watchdog"
kind_text Update = codes "update"

-- the line of a record comes last, where there is one
abbrev pub line_field : Option (List ℕ) → List ℕ
line_field line = option_map_or (λ line. codes " line " ++ percent_form line) line []

abbrev pub record_line : Numbered → List ℕ
record_line entry =
    let item = entry.item in
    codes "record " ++ decimal entry.number ++ codes " user " ++ percent_form item.user
    ++ codes " " ++ kind_text item.kind
    ++ codes " task " ++ percent_form item.task
    ++ codes " elapsed " ++ decimal item.elapsed ++ line_field item.line ++ 10 ∷ []

abbrev pub records_text : List Numbered → List ℕ
records_text [] = codes "none" ++ 10 ∷ []
records_text (entry ∷ rest) = flat_map record_line (entry ∷ rest)

-- ---- questions

abbrev pub report_text : Query → Report → List ℕ
report_text query (reports.Policy policy) = text_of policy
report_text query (reports.Shadow rows) = shadows_text rows
report_text query (reports.Reach rows) = reach_text rows
report_text query (reports.Tally tally) = tally_text query tally
report_text query (reports.Why decision) = why_line decision
report_text query (reports.Given given) = given_text given
report_text query (reports.Records records) = records_text records

abbrev pub query_answer : Query → Result Report QueryFault → List ℕ
query_answer query (Ok report) = report_text query report
query_answer query (Err fault) = refused (query_faults.fault_text fault)
