use Rattle.std.proofs.Common.{sym, refl}
use Rattle.tac_hall_console.specs.Operated.{IsRotation, IsReload}
use Rattle.tac_hall_console.proofs.CallFacts.{tells_rotation, tells_reload, tells_devices, tells_added}
use Rattle.tac_hall_console.proofs.answering.answer_line.Goals as goal

pub returns-then-is_rotate-clause-ok : goal.returns-then-is_rotate-clause-ok
returns-then-is_rotate-clause-ok g c =
    tells_rotation g.J.Run.opening c.args.console.now.batch c.args.console.now.seat c.rotate.new.seat c.args.line.now c.rotate.new.out.items (sym c.if-is_rotate.ensures)
    (tells_added (IsRotation g.J.Run.opening c.args.console.now.seat) c.rotate.new.seat c.in_ok-text.text.items c.rotate.new.out.items c.in_ok-text.ensures.items c.in_ok-rotate.ensures.ok)

pub returns-then-is_reload-clause-ok : goal.returns-then-is_reload-clause-ok
returns-then-is_reload-clause-ok g c =
    tells_reload g.J.Run.opening c.args.console.now.batch c.args.console.now.seat c.reload.new.seat c.args.line.now c.reload.new.out.items (sym c.if-is_rotate.ensures) (sym c.if-is_reload.ensures)
    (tells_added (IsReload g.J.Run.opening c.args.console.now.seat) c.reload.new.seat c.in_ok-text.text.items c.reload.new.out.items c.in_ok-text.ensures.items c.in_ok-reload.ensures.ok)

pub returns-then-is_reload_devices-clause-ok : goal.returns-then-is_reload_devices-clause-ok
returns-then-is_reload_devices-clause-ok g c =
    tells_devices g.J.Run.opening c.args.console.now.batch c.args.console.now.seat c.args.console.now.seat c.args.line.now c.in_ok-answer.answer.items
    (sym c.if-is_rotate.ensures) (sym c.if-is_reload.ensures) (sym c.if-is_reload_devices.ensures) refl c.in_ok-answer.ensures
