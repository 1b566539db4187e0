use Rattle.std.proofs.KnownBytes.{Appends-nil}
use Rattle.std.proofs.Common.{arith}
use Rattle.tac_journal.proofs.tail.write_patiently.Goals as goal

pub pauses-init : goal.pauses-init
pauses-init g c = record { within = omega arith; some_left = λ some. some; first = Appends-nil _ }

pub pauses-preserved : goal.pauses-preserved
pauses-preserved g c =
    let taken = rw c.in-Err.is at (c.write_rest-so_far.ensures.takes _ c.pauses.invariant.first) in
    record { within = c.write_rest-so_far.ensures.within; some_left = taken.0; first = taken.1 }

pub returns : goal.returns
returns g c = c.write_rest.ensures.takes _ c.pauses.invariant.first
