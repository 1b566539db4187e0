use Rattle.std.proofs.Common.{◌++◌, length}
use Rattle.tac_hall_console.specs.Operated.{Hears}
use Rattle.tac_hall_console.specs.Operating.{GoesOn, IsOpen, scene}
use Rattle.tac_hall_console.proofs.operator.Operator.take.Given as goal

-- the piece was gone through up to what has begun of a line, and the rest
abbrev pub invariant-lines : goal.invariant-lines
invariant-lines g l = record {
  goes : GoesOn (Hears g.V.Witness.takes g.V.Witness.refuses) g.J.Run.opening (l.fn.self.begun.items ++ l.piece) (l.self.begun.items ++ l.rest) (scene l.fn.self.console l.fn.witness (g.W.Write.contents l.fn.writer))
      (scene l.self.console l.witness (g.W.Write.contents l.writer));
  opens : IsOpen l.self.begun.items;
}

abbrev pub decreases-lines : goal.decreases-lines
decreases-lines g l = length l.rest
