use Rattle.std.proofs.Common.{◌≡◌, length}
use Rattle.tac_proxy.specs.Front as fronts
use Rattle.tac_proxy.proofs.front.agrees.Given as goal

abbrev pub invariant-bytes : goal.invariant-bytes
invariant-bytes l = fronts.agrees l.wanted l.rest ≡ fronts.agrees l.front l.bytes

abbrev pub decreases-bytes : goal.decreases-bytes
decreases-bytes l = length l.wanted
