use Rattle.std.proofs.Common.{◌≤◌}
use Rattle.pol_live.specs.Renewing.{IsAlike, renews_own, renews_chain}
use Rattle.pol_live.specs.Rise.{most}
use Rattle.pol_live.proofs.RenewFacts.{owns_kept, wholes_kept}
use Rattle.pol_live.proofs.MeterFacts.{rise_made}
use Rattle.pol_live.proofs.live.Live.renewed.Goals as goal

pub returns-clause-rises : goal.returns-clause-rises
returns-clause-rises c =
    let touched = c.args.touched.now in
    let old = c.self.inside.policy in
    let new = c.args.policy in
    let parts = c.self.inside.parts in
    let told = c.in_ok-complete.ensures in
    let kept = c.in_ok-parts.ensures in
    let same : IsAlike touched old new = rw c.self.view_is c.requires in
    let fits : c.args.meter.now.total ≤ most = c.args.meter.now.fits in
    rise_made new c.in_ok-parts.parts c.complete.new.parts kept.right told.right told.grows (renews_own touched) (renews_chain touched new)
    (owns_kept touched old new same kept.well_formed parts c.self.invariant.0 c.in_ok-parts.parts.owns c.self.invariant.2 kept.owns)
    (wholes_kept touched old new same kept.well_formed parts c.self.invariant.0 c.in_ok-parts.parts.wholes c.self.invariant.1 kept.wholes)
    told.all told.keepers c.args.meter.now.total c.complete.new.meter.total told.counts fits
