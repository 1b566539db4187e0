use Rattle.std.proofs.Common.{◌≡◌, take}
use Rattle.pol_meaning.specs.Reach.{ShadowsOf}
use Rattle.pol_report.specs.Sharing.{AreFound}
use Rattle.pol_report.proofs.shadowing.shadows.Given as goal

abbrev pub invariant-loop-subject : goal.invariant-loop-subject
invariant-loop-subject l = record {
  so_far : ShadowsOf l.live (take l.subject-index l.live) l.shadows;
  known : AreFound l.live l.known;
  same : l.subject-items ≡ l.live;
}
