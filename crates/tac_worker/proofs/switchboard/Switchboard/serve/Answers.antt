use Rattle.std.proofs.Common.{◌≡◌, Some, refl, rules}
use Rattle.tac_worker.specs.Board.{at}
use Rattle.tac_worker.specs.Boarding.{board_of}
use Rattle.tac_worker.specs.Steps.{woken}
use Rattle.tac_worker.proofs.StepFacts.{grows, grows_woken}
use Rattle.tac_worker.proofs.BoardFacts.{set_here, set_else, turned, served_at}
use Rattle.tac_worker.proofs.switchboard.Switchboard.serve.Goals as goal

pub invariant_of-self : goal.invariant_of-self
invariant_of-self g c =
    let board = board_of c.self.inside in
    let line = c.in-Some.line.now in
    let now = c.go.new.self in
    let is : at board.lines c.args.key ≡ Some line = search rules in
    let goes = c.go.ensures.goes in
    let g_rows = grows g.C.Caller.makes g.C.Caller.rests g.met.C.Caller.rests_so g.S.Read.remaining g.S.Write.contents g.met.C.Steady.rests_on g.met.C.Steady.makes_after goes.steps (woken line) now board.caller c.go.new.caller goes.goes in
    turned g.C.Caller.makes g.C.Caller.rests g.C.Caller.refuses g.V.Witness.takes g.V.Witness.refuses board _ c.args.key line now c.go.new.caller g.met.C.Steady.rests_on g.met.C.Steady.makes_after c.self.invariant is
    (grows_woken g.C.Caller.makes g.C.Caller.rests line now board.caller c.go.new.caller g_rows) c.go.ensures.stands
    (set_here board.lines c.args.key line (Some now) is) (λ other ne. set_else board.lines c.args.key other (Some now) ne)

pub returns-in-Some : goal.returns-in-Some
returns-in-Some g c =
    let board = board_of c.self.inside in
    let is : at board.lines c.args.key ≡ Some c.in-Some.line.now = search rules in
    rw (← c.self.view_is)
    (served_at g.C.Caller.makes g.C.Caller.rests g.S.Read.remaining g.S.Write.contents (at board.lines c.args.key) c.args.turns c.args.key c.in-Some.line.now c.go.result board _ is
    (record { then = c.go.new.self; goes = c.go.ensures.goes; rest = refl }))
