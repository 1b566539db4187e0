use Rattle.std.proofs.Common.{arith, append-nil, length-take}
use Rattle.std.proofs.KnownBytes.{Consumes-nil, Consumes-trans}
use Rattle.tac_io.proofs.reading.read_whole.Goals as goal

pub reads-init : goal.reads-init
reads-init g c = record { given = rw c.new-input.ensures.items (Consumes-nil _); bound = omega (arith, c.new-input.ensures.len) }

pub reads-preserved : goal.reads-preserved
reads-preserved g c =
    let piece = rw c.in-Some.is at c.in_ok-n.ensures in
    record {
      given = rw c.in_ok-extend_from_slice.ensures.items (Consumes-trans _ _ _ _ _ c.reads.invariant.given piece.bytes.0);
      bound = omega (arith, c.in_ok-extend_from_slice.ensures.len, c.reads.invariant.bound, c.if-n-bound.false, c.len.ensures, length-take c.in-Some.n c.read_piece.new.chunk);
    }

pub returns-then-n-eq0-clause-bytes : goal.returns-then-n-eq0-clause-bytes
returns-then-n-eq0-clause-bytes g c =
    let piece = rw (c.in-Some.is, c.if-n-eq0.true) at c.in_ok-n.ensures in
    rw (append-nil c.reads.input.items) at (Consumes-trans _ _ _ _ _ c.reads.invariant.given piece.bytes.0)
