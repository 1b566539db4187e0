use Rattle.std.proofs.Common.{◌≤◌, true, true≢false}
use Rattle.pol_live.specs.Rise.{most}
use Rattle.pol_live.proofs.MeterFacts.{rise_made, build_rise}
use Rattle.pol_live.proofs.live.Live.build_anew.Goals as goal

pub returns-clause-rises : goal.returns-clause-rises
returns-clause-rises c =
    let told = c.in_ok-complete.ensures in
    let none = c.in_ok-parts.ensures.none in
    let fits : c.args.meter.now.total ≤ most = c.args.meter.now.fits in
    build_rise c.args.policy c.args.meter.now.total c.complete.new.meter.total
    (rise_made c.args.policy c.in_ok-parts.parts c.complete.new.parts c.in_ok-parts.ensures.right told.right told.grows (λ _. true) (λ _. true)
    (λ k s here. (λ _. none.0 k, λ e. absurd (true≢false e))) (λ k s here. (λ _. none.1 k, λ e. absurd (true≢false e)))
    told.all told.keepers c.args.meter.now.total c.complete.new.meter.total told.counts fits)
