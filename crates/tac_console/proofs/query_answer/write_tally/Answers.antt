use Rattle.std.proofs.Common.{append_assoc}
use Rattle.tac_console.proofs.query_answer.write_tally.Goals as goal

pub returns : goal.returns
returns c = rw (c.in_ok-writeln.ensures.bytes, c.in_ok-write-2.ensures.bytes, c.in_ok-write.ensures.bytes) (simp append_assoc)
