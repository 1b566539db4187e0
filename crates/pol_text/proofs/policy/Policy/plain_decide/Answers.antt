use Rattle.std.proofs.Common.{sym}
use Rattle.pol_text.specs.Policy.{is_right_subject}
use Rattle.pol_text.proofs.SubjectFacts.{found_passes}
use Rattle.pol_text.proofs.policy.Policy.plain_decide.Goals as goal

pub decision-requires : goal.decision-requires
decision-requires c =
    found_passes is_right_subject c.user.result c.self.inside.subjects c.in-Some.subject.now c.self.invariant.0.right (sym c.in-Some.ensures)
