use Rattle.tac_worker.specs.Steps.{woken}
use Rattle.tac_worker.proofs.StepFacts.{goes_first, goes_more}
use Rattle.tac_worker.proofs.line.Line.go.Goals as goal

pub steps-init : goal.steps-init
steps-init g c = goes_first g.C.Caller.makes g.C.Caller.rests g.S.Read.remaining g.S.Write.contents c.args.self.now c.wake.new.self c.args.caller.now c.wake.ensures

pub steps-preserved : goal.steps-preserved
steps-preserved g c =
    goes_more g.C.Caller.makes g.C.Caller.rests g.S.Read.remaining g.S.Write.contents c.steps.counter (woken c.args.self.now) c.steps.self c.step.new.self c.args.caller.now c.steps.caller c.step.new.caller c.steps.invariant (rw c.foresee.ensures at c.step.ensures)
