use Rattle.std.proofs.Common.{arith}
use Rattle.tac_wire.proofs.HeaderFacts.{header_of-header_bytes}
use Rattle.tac_wire.proofs.header.Header.write.Goals as goal

pub returns-clause-again : goal.returns-clause-again
returns-clause-again c = rw (c.write_u32.ensures, c.write_u32-2.ensures) (header_of-header_bytes c.args.self.now (omega arith) (omega arith))
