use Rattle.std.proofs.Common.{refl}
use Rattle.tac_hall.specs.View.{made_of}
use Rattle.tac_hall_console.specs.Operated.{CallsFor, made, refused}
use Rattle.tac_hall_console.proofs.CallFacts.{tells_ok, tells_err}
use Rattle.tac_hall_console.proofs.answering.tell.Goals as goal

pub returns-in-Ok-clause-ok : goal.returns-in-Ok-clause-ok
returns-in-Ok-clause-ok g c =
    tells_ok (CallsFor g.J.Run.opening c.args.seat.now c.args.call.now) (made (made_of c.args.call.now c.in-Ok.receipt)) c.call.new.seat c.args.out.now.items c.write_answer.new.out.items c.write_answer.result
    (c.in-Ok.receipt, refl, c.in-Ok.ensures.made) c.write_answer.ensures

pub returns-in-Ok-clause-err : goal.returns-in-Ok-clause-err
returns-in-Ok-clause-err g c =
    tells_err (CallsFor g.J.Run.opening c.args.seat.now c.args.call.now) (made (made_of c.args.call.now c.in-Ok.receipt)) c.args.seat.now c.call.new.seat c.write_answer.result
    (c.in-Ok.receipt, refl, c.in-Ok.ensures.made)

pub returns-in-Err-clause-ok : goal.returns-in-Err-clause-ok
returns-in-Err-clause-ok g c =
    tells_ok (CallsFor g.J.Run.opening c.args.seat.now c.args.call.now) (refused c.in-Err.fault) c.call.new.seat c.args.out.now.items c.write_refusal.new.out.items c.write_refusal.result
    (c.in-Err.ensures.refused, c.in-Err.ensures.err) c.write_refusal.ensures

pub returns-in-Err-clause-err : goal.returns-in-Err-clause-err
returns-in-Err-clause-err g c =
    tells_err (CallsFor g.J.Run.opening c.args.seat.now c.args.call.now) (refused c.in-Err.fault) c.args.seat.now c.call.new.seat c.write_refusal.result
    (c.in-Err.ensures.refused, c.in-Err.ensures.err)
