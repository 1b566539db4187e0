use Rattle.std.proofs.Common.{rules, inl, inr, refl}
use Rattle.tac_hall_console.specs.Operated.{Replaces, IsReload, replied, no_memory_line}
use Rattle.tac_hall_console.proofs.CallFacts.{tells_ok, adds_as, untold_as}
use Rattle.tac_hall_console.proofs.ReloadFacts.{loads, unloads}
use Rattle.tac_hall_console.proofs.answering.reload.Goals as goal

pub returns-in-Ok-Ok-clause-ok : goal.returns-in-Ok-Ok-clause-ok
returns-in-Ok-Ok-clause-ok g c =
    let read = rw (c.in-Ok-Ok.is, c.in-Ok-Ok.field-0-is) at c.read_source.ensures in
    adds_as (Replaces g.J.Run.opening c.args.seat.now c.in-Ok-Ok.policy) (IsReload g.J.Run.opening c.args.seat.now) (loads g.J.Run.opening c.args.seat.now c.in-Ok-Ok.policy read)
    c.replace.new.seat c.args.out.now.items c.replace.new.out.items c.replace.result c.replace.ensures.ok

pub returns-in-Ok-Ok-clause-err : goal.returns-in-Ok-Ok-clause-err
returns-in-Ok-Ok-clause-err g c =
    let read = rw (c.in-Ok-Ok.is, c.in-Ok-Ok.field-0-is) at c.read_source.ensures in
    untold_as (Replaces g.J.Run.opening c.args.seat.now c.in-Ok-Ok.policy) (IsReload g.J.Run.opening c.args.seat.now) (loads g.J.Run.opening c.args.seat.now c.in-Ok-Ok.policy read)
    c.args.seat.now c.replace.new.seat c.replace.result c.replace.ensures.err

pub returns-in-Ok-Err-clause-ok : goal.returns-in-Ok-Err-clause-ok
returns-in-Ok-Err-clause-ok g c =
    let read = rw (c.in-Ok-Err.is, c.in-Ok-Err.field-0-is) at c.read_source.ensures in
    tells_ok (IsReload g.J.Run.opening c.args.seat.now) (replied c.in-Ok-Err.line) c.args.seat.now c.args.out.now.items c.extend_from_slice.new.self.items c.extend_from_slice.result
    (unloads g.J.Run.opening c.args.seat.now c.in-Ok-Err.line (inl read)) (search rules)

pub returns-in-Err-clause-ok : goal.returns-in-Err-clause-ok
returns-in-Err-clause-ok g c =
    tells_ok (IsReload g.J.Run.opening c.args.seat.now) (replied no_memory_line) c.args.seat.now c.args.out.now.items c.extend_from_slice-in-Err.new.self.items c.extend_from_slice-in-Err.result
    (unloads g.J.Run.opening c.args.seat.now no_memory_line (inr refl)) (search rules)
