use Rattle.std.proofs.Common.{◌≡◌, ◌∙◌}
use Rattle.pol_live.proofs.PreparedFacts.{alike_all, leaves, rises}
use Rattle.pol_live.proofs.live.Live.prepare_edits.Goals as goal

pub renewed-requires : goal.renewed-requires
renewed-requires c =
    alike_all c.args.edits.now c.args.self.now c.in_ok-policy.policy c.in_ok-touched.touched c.in_ok-touched.ensures (rw c.policy.ensures.policy at (c.in_ok-policy.ensures.exact))

pub invariant_of-result : goal.invariant_of-result
invariant_of-result c =
    let copied : c.in_ok-before.before ≡ c.args.self.now = c.in_ok-before.ensures.same ∙ c.policy-2.ensures.policy in
    rw copied (leaves c.args.edits.now c.args.self.now c.in_ok-policy.policy c.in_ok-touched.touched c.in_ok-touched.ensures c.in_ok-after.after c.in_ok-after.ensures.found.0
    c.in_ok-policy.ensures.well_formed.parents (rw c.policy.ensures.policy at (c.in_ok-policy.ensures.exact)))

pub returns-clause-rises : goal.returns-clause-rises
returns-clause-rises c =
    rises c.args.edits.now c.args.self.now c.in_ok-policy.policy c.in_ok-touched.touched c.in_ok-touched.ensures c.in_ok-after.after c.in_ok-after.ensures.found.0
    c.args.meter.now.total c.renewed.new.meter.total c.in_ok-after.ensures.rises
