-- A right answer to a question is a report of its kind, or a refusal.
use Rattle.std.proofs.Common.{List, Option, None, Some, Result, Ok, Err, IsTrue, refl, sym, subst}
use Rattle.pol_text.specs.declared.subject.Subject.{Subject}
use Rattle.pol_text.specs.Policy.{Entry, find_subject}
use Rattle.pol_meaning.specs.Along.{entries_of}
use Rattle.pol_names.specs.declared.subject_id.SubjectId.{SubjectId}
use Rattle.tac_desk.specs.Meaning.{Meaning}
use Rattle.tac_tally.specs.declared.tally.Tally.{Tally}
use Rattle.tac_desk.specs.Reporting.{Reports, ReachIf, is_report_to, tally_report, tally_at}
use Rattle.tac_desk.specs.declared.query.Query.{Query}
use Rattle.tac_desk.specs.declared.query.Query.TheVariants as queries
use Rattle.tac_desk.specs.declared.query.Report.{Report}
use Rattle.tac_desk.specs.declared.query.QueryFault.{QueryFault}

-- a test of a report holds of an answer, if it is one
Passes : (Report → Type 0) → Result Report QueryFault → Type 0
Passes test (Ok report) = test report
Passes test (Err fault) = Unit {0}

tally_kind : (subject : _) (r : Result Tally QueryFault) → Passes (λ report. IsTrue (is_report_to (queries.Tally subject) report)) (tally_report r)
unfolding Passes
tally_kind subject (Ok tally) = refl
tally_kind subject (Err fault) = tt

pub kind : (meaning : Meaning) (query : Query) (report : Report) → Reports meaning query (Ok report) → IsTrue (is_report_to query report)
unfolding Passes
kind meaning query report h = by_query query report h
  where
    of : Query → Result Report QueryFault → Type 0
    of query answer = Passes (λ report. IsTrue (is_report_to query report)) answer

    by_reach : (subject : SubjectId) (found : Option Subject) (along : List Entry) (report : Report) → ReachIf found along (Ok report) → IsTrue (is_report_to (queries.Reach subject) report)
    by_reach subject None along report h = absurd cc
    by_reach subject (Some here) along report h = subst (of (queries.Reach subject)) (sym h.is) refl

    by_query : (query : Query) (report : Report) → Reports meaning query (Ok report) → IsTrue (is_report_to query report)
    by_query queries.Policy report h = subst (of queries.Policy) (sym h) refl
    by_query queries.Shadow report h = subst (of queries.Shadow) (sym h.is) refl
    by_query (queries.Reach subject) report h = by_reach subject (find_subject subject meaning.policy) (entries_of meaning.policy subject) report h
    by_query (queries.Tally subject) report h = subst (of (queries.Tally subject)) (sym h) (tally_kind subject (tally_at meaning subject.kind subject.name))
    by_query (queries.Why user line) report h = subst (of (queries.Why user line)) (sym h) refl
    by_query (queries.Given user service) report h = subst (of (queries.Given user service)) (sym h) refl
    by_query queries.Records report h = subst (of queries.Records) (sym h) refl
