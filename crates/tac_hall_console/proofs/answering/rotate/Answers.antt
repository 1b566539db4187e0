use Rattle.tac_hall_console.specs.Operated.{IsRotation, rotated, refused}
use Rattle.tac_hall_console.proofs.CallFacts.{tells_ok, tells_err}
use Rattle.tac_hall_console.proofs.answering.rotate.Goals as goal

pub returns-in-Ok-clause-ok : goal.returns-in-Ok-clause-ok
returns-in-Ok-clause-ok g c =
    tells_ok (IsRotation g.J.Run.opening c.args.seat.now) (rotated c.in-Ok.rotated) c.rotate.new.seat c.args.out.now.items c.write_rotated.new.out.items c.write_rotated.result c.in-Ok.ensures.rotated c.write_rotated.ensures

pub returns-in-Ok-clause-err : goal.returns-in-Ok-clause-err
returns-in-Ok-clause-err g c =
    tells_err (IsRotation g.J.Run.opening c.args.seat.now) (rotated c.in-Ok.rotated) c.args.seat.now c.rotate.new.seat c.write_rotated.result c.in-Ok.ensures.rotated

pub returns-in-Err-clause-ok : goal.returns-in-Err-clause-ok
returns-in-Err-clause-ok g c =
    tells_ok (IsRotation g.J.Run.opening c.args.seat.now) (refused c.in-Err.fault) c.rotate.new.seat c.args.out.now.items c.write_refusal.new.out.items c.write_refusal.result
    (c.in-Err.ensures.refused, c.in-Err.ensures.err) c.write_refusal.ensures

pub returns-in-Err-clause-err : goal.returns-in-Err-clause-err
returns-in-Err-clause-err g c =
    tells_err (IsRotation g.J.Run.opening c.args.seat.now) (refused c.in-Err.fault) c.args.seat.now c.rotate.new.seat c.write_refusal.result
    (c.in-Err.ensures.refused, c.in-Err.ensures.err)
