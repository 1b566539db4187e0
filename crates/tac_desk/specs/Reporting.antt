-- What a question to the desk is answered.
use Rattle.std.specs.Prelude.{◌≡◌, ℕ, ◌+◌, List, [], ◌∷◌, Bool, true, false, is_some, Option, Some}
use Rattle.std.specs.Prelude.{None, Result, Ok, Err, if◌then◌else◌}
use Rattle.pol_text.specs.Policy.{find_subject, Entry, decision, decide}
use Rattle.pol_names.specs.declared.subject_id.Kind.{Kind}
use Rattle.pol_names.specs.declared.subject_id.Kind.TheVariants.{Group, User}
use Rattle.pol_names.specs.declared.subject_id.SubjectId.{SubjectId}
use Rattle.pol_names.specs.declared.decision.Verdict.{Verdict}
use Rattle.pol_names.specs.declared.decision.Verdict.TheVariants.{Permit, Deny}
use Rattle.pol_text.specs.declared.subject.Subject.{Subject}
use Rattle.pol_given.specs.Granting.{given}
use Rattle.pol_meaning.specs.Along.{entries_of}
use Rattle.pol_meaning.specs.Reach.{AreReached, Shadows}
use Rattle.pol_meaning.specs.declared.Shadowed.{Shadowed}
use Rattle.pol_meaning.specs.declared.Reached.{Reached}
use Rattle.tac_tally.specs.Book as book
use Rattle.tac_tally.specs.Recount.{marked}
use Rattle.tac_tally.specs.Tally.{tally_of, group_tally_of}
use Rattle.tac_tally.specs.declared.tally.Tally.{Tally}
use Rattle.tac_request.specs.declared.record.Record.{Record}
use Rattle.tac_desk.specs.Meaning.{Meaning}
use Rattle.tac_desk.specs.Asking.{user_named}
use Rattle.tac_desk.specs.declared.query.Query.{Query}
use Rattle.tac_desk.specs.declared.query.Query.TheVariants as queries
use Rattle.tac_desk.specs.declared.query.Report.{Report}
use Rattle.tac_desk.specs.declared.query.Report.TheVariants as reports
use Rattle.tac_desk.specs.declared.numbered.Numbered.{Numbered}
use Rattle.tac_desk.specs.declared.query.QueryFault.{QueryFault}
use Rattle.tac_desk.specs.declared.query.QueryFault.TheVariants.{NoSuch, Memory}

-- ---- tallies

abbrev pub denies_by : Verdict → Bool
denies_by Permit = false
denies_by Deny = true

abbrev pub denies_to : List Subject → List ℕ → Option Subject → Bool
denies_to policy line None = true
denies_to policy line (Some user) = denies_by (decision policy user line).verdict

-- whether the policy denies this line to this user; a user whom it doesn't have may do nothing
abbrev pub denies : List Subject → List ℕ → List ℕ → Bool
denies policy name line = denies_to policy line (user_named policy name)

-- the records, and beside each whether the present policy denies its line
abbrev pub entries : Meaning → List book.Entry
entries meaning = marked (denies meaning.policy) meaning.records

-- the user needn't be in the policy; a group must be
abbrev pub tally_at : Meaning → Kind → List ℕ → Result Tally QueryFault
tally_at meaning User name = Ok (tally_of name (entries meaning))
tally_at meaning Group name =
    if is_some (find_subject (record { kind = Group; name = name }) meaning.policy)
    then Ok (group_tally_of meaning.policy name (entries meaning)) else Err NoSuch

abbrev pub tally_report : Result Tally QueryFault → Result Report QueryFault
tally_report (Ok tally) = Ok (reports.Tally tally)
tally_report (Err fault) = Err fault

-- ---- records

-- the records after so many others, each with its number
abbrev pub numbered_after : ℕ → List Record → List Numbered
numbered_after before [] = []
numbered_after before (item ∷ rest) =
    record { number = before + 1; item = item } ∷ numbered_after (before + 1) rest

-- those that are kept, each with the number that it had when it came
abbrev pub numbered : Meaning → List Numbered
numbered meaning = numbered_after meaning.forgotten meaning.records

-- ---- rules

-- the rules that decide no line, for each subject of the policy
pub record IsShadowReport (policy : List Subject) (answer : Result Report QueryFault) : Type 0 where
  pub shadows : List Shadowed
  pub are : Shadows policy shadows
  pub is : answer ≡ Ok (reports.Shadow shadows)

-- the rules along a chain, each with the least line that it decides
pub record IsReachReport (along : List Entry) (answer : Result Report QueryFault) : Type 0 where
  pub rows : List Reached
  pub are : AreReached along rows
  pub is : answer ≡ Ok (reports.Reach rows)

-- along the chain of a subject, which must be there
abbrev pub ReachIf : Option Subject → List Entry → Result Report QueryFault → Type 0
ReachIf None along answer = answer ≡ Err NoSuch
ReachIf (Some subject) along answer = IsReachReport along answer

abbrev pub IsReachOf : List Subject → SubjectId → Result Report QueryFault → Type 0
IsReachOf policy id answer = ReachIf (find_subject id policy) (entries_of policy id) answer

-- ---- all questions

-- the desk answers the question so
abbrev pub Reports : Meaning → Query → Result Report QueryFault → Type 0
Reports meaning queries.Policy answer = answer ≡ Ok (reports.Policy meaning.policy)
Reports meaning queries.Shadow answer = IsShadowReport meaning.policy answer
Reports meaning (queries.Reach subject) answer = IsReachOf meaning.policy subject answer
Reports meaning (queries.Tally subject) answer =
    answer ≡ tally_report (tally_at meaning subject.kind subject.name)
Reports meaning (queries.Why user line) answer =
    answer ≡ Ok (reports.Why (decide meaning.policy user line))
Reports meaning (queries.Given user service) answer = answer ≡ Ok (reports.Given
    (given meaning.policy user service (decide meaning.policy user [])))
Reports meaning queries.Records answer = answer ≡ Ok (reports.Records (numbered meaning))

-- no other answer is right
abbrev pub IsOnly : Meaning → Query → Result Report QueryFault → Type 0
IsOnly meaning query answer =
    (other : Result Report QueryFault) → Reports meaning query other → answer ≡ other

-- whether the report is one to this question
abbrev pub is_report_to : Query → Report → Bool
is_report_to queries.Policy (reports.Policy policy) = true
is_report_to queries.Shadow (reports.Shadow shadows) = true
is_report_to (queries.Reach subject) (reports.Reach rows) = true
is_report_to (queries.Tally subject) (reports.Tally tally) = true
is_report_to (queries.Why user line) (reports.Why decision) = true
is_report_to (queries.Given user service) (reports.Given given) = true
is_report_to queries.Records (reports.Records records) = true
is_report_to _ _ = false

-- whether the fault says that memory ran out
abbrev pub is_memory : QueryFault → Bool
is_memory NoSuch = false
is_memory Memory = true
