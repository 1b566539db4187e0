use Rattle.tac_hall_console.specs.Operated.{Hears}
use Rattle.tac_hall_console.specs.Operating.{Listens, scene}
use Rattle.tac_hall_console.proofs.operator.Operator.listen.Given as goal

-- all that was read is answered, up to what has begun of a line
abbrev pub invariant-reads : goal.invariant-reads
invariant-reads g l =
    Listens (Hears g.V.Witness.takes g.V.Witness.refuses) g.J.Run.opening l.self.begun.items (scene l.fn.self.console l.fn.witness (g.W.Write.contents l.fn.writer))
    (scene l.self.console l.witness (g.W.Write.contents l.writer)) (g.R.Read.remaining l.fn.reader) (g.R.Read.remaining l.reader)
