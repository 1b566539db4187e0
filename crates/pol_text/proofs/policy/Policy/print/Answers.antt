use Rattle.pol_text.specs.Text.{first_line}
use Rattle.pol_text.proofs.PrintFacts.{subjects_more}
use Rattle.pol_text.proofs.RoundFacts.{read_again}
use Rattle.pol_text.proofs.policy.Policy.print.Goals as goal

pub subjects-preserved : goal.subjects-preserved
subjects-preserved c =
    subjects_more (first_line c.subjects-all.result.now) c.subjects.text c.print_subject.new.text c.subjects-all.result.now c.subjects.subject-index c.subject-item.result
    c.subjects-test.true c.subject-item.is c.subjects.invariant c.in_ok-print_subject.ensures

pub returns-in_err-print_subject-clause-again : goal.returns-in_err-print_subject-clause-again
returns-in_err-print_subject-clause-again c = read_again c.args.self.now c.subjects-all.ensures.well_formed

pub returns-in_err-print_line-clause-again : goal.returns-in_err-print_line-clause-again
returns-in_err-print_line-clause-again c = read_again c.args.self.now c.subjects-all.ensures.well_formed

pub returns-clause-again : goal.returns-clause-again
returns-clause-again c = read_again c.args.self.now c.subjects-all.ensures.well_formed
