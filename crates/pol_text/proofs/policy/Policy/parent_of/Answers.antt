use Rattle.pol_text.specs.Policy.{is_right_subject}
use Rattle.pol_text.proofs.SubjectFacts.{parent_right}
use Rattle.pol_text.proofs.ChainFacts.{inherits_entries, parent_inside}
use Rattle.pol_text.proofs.policy.Policy.parent_of.Goals as goal

pub returns-clause-right : goal.returns-clause-right
returns-clause-right c = parent_right is_right_subject c.args.subject.now c.self.inside.subjects c.parent_in.result c.self.invariant.0.right c.parent_in.ensures

pub returns-clause-there : goal.returns-clause-there
returns-clause-there c = rw (← c.self.view_is) (parent_inside c.self.inside.subjects c.args.subject.now c.parent_in.result c.parent_in.ensures)

pub returns-clause-entries : goal.returns-clause-entries
returns-clause-entries c = rw (← c.self.view_is) (inherits_entries c.self.inside.subjects c.self.invariant.0.short c.args.subject.now)
