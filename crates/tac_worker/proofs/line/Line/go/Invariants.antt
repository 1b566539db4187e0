use Rattle.tac_worker.specs.Steps.{Goes, woken}
use Rattle.tac_worker.proofs.line.Line.go.Given as goal

-- so many steps were done
abbrev pub invariant-steps : goal.invariant-steps
invariant-steps g l = Goes g.C.Caller.makes g.C.Caller.rests g.S.Read.remaining g.S.Write.contents l.counter (woken l.fn.self) l.self l.fn.caller l.caller
