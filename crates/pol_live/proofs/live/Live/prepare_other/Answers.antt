use Rattle.std.proofs.Common.{◌≡◌, ◌∙◌}
use Rattle.pol_live.specs.Renewing.{touched_between, IsAlike}
use Rattle.pol_live.proofs.ReplaceFacts.{alike_replaced, leaves_replaced, rises_replaced}
use Rattle.pol_live.proofs.live.Live.prepare_other.Goals as goal

pub sharing-requires-clause-alike : goal.sharing-requires-clause-alike
sharing-requires-clause-alike c =
    let touched : c.in_ok-touched.touched ≡ touched_between c.args.self.now c.args.policy = rw c.policy-2.ensures.policy at (c.in_ok-touched.ensures.touched) in
    rw c.policy-3.ensures.policy (alike_replaced c.args.self.now c.args.policy c.in_ok-touched.touched touched)

pub renewed-requires : goal.renewed-requires
renewed-requires c =
    let touched : c.in_ok-touched.touched ≡ touched_between c.args.self.now c.args.policy = rw c.policy-2.ensures.policy at (c.in_ok-touched.ensures.touched) in
    rw c.in_ok-shared.ensures (alike_replaced c.args.self.now c.args.policy c.in_ok-touched.touched touched)

pub invariant_of-result : goal.invariant_of-result
invariant_of-result c =
    let copied : c.in_ok-before.before ≡ c.args.self.now = c.in_ok-before.ensures.same ∙ c.policy.ensures.policy in
    rw copied (leaves_replaced c.args.self.now c.args.policy c.in_ok-touched.touched (rw c.policy-2.ensures.policy at (c.in_ok-touched.ensures.touched))
    c.in_ok-after.after (c.in_ok-after.ensures.found.0 ∙ c.in_ok-shared.ensures) c.touched_between.ensures.well_formed)

pub returns-clause-rises : goal.returns-clause-rises
returns-clause-rises c =
    rises_replaced c.args.self.now c.args.policy c.in_ok-touched.touched (rw c.policy-2.ensures.policy at (c.in_ok-touched.ensures.touched))
    c.in_ok-after.after (c.in_ok-after.ensures.found.0 ∙ c.in_ok-shared.ensures) c.args.meter.now.total c.renewed.new.meter.total (rw c.in_ok-shared.ensures at (c.in_ok-after.ensures.rises))
