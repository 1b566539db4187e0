use Rattle.std.proofs.Common.{◌≡◌, length}
use Rattle.tac_devices_lint.specs.Odd.{from_odd}
use Rattle.tac_devices_lint.proofs.odd.from_odd.Given as goal

abbrev pub invariant-loop-rest : goal.invariant-loop-rest
invariant-loop-rest l = from_odd l.rest ≡ from_odd l.line

abbrev pub decreases-loop-rest : goal.decreases-loop-rest
decreases-loop-rest l = length l.rest
