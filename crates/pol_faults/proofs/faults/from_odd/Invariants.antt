use Rattle.std.proofs.Common.{◌≡◌, length}
use Rattle.pol_faults.specs.Faults.{from_odd}
use Rattle.pol_faults.proofs.faults.from_odd.Given as goal

abbrev pub invariant-loop-rest : goal.invariant-loop-rest
invariant-loop-rest l = from_odd l.rest ≡ from_odd l.line

abbrev pub decreases-loop-rest : goal.decreases-loop-rest
decreases-loop-rest l = length l.rest
