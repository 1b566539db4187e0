use Rattle.std.proofs.Common.{append_assoc}
use Rattle.tac_console.proofs.rules.write_reach_end.Goals as goal

pub returns : goal.returns
returns c =
    rw (c.in-Some.is, c.in_ok-extend_from_slice.ensures.items, c.in_ok-write-2.ensures.bytes, c.as_slice.ensures) (simp append_assoc)
