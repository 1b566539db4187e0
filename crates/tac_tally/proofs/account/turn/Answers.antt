use Rattle.std.proofs.Common.{◌∙◌}
use Rattle.tac_tally.proofs.OpenSet.{turn-begin, turn-stop, turn-other}
use Rattle.tac_tally.proofs.account.turn.Goals as goal

pub returns-in_ok-insert-in-Begin-clause-ok : goal.returns-in_ok-insert-in-Begin-clause-ok
returns-in_ok-insert-in-Begin-clause-ok c =
    let e = c.in_ok-insert-in-Begin.ensures in
    let task = c.in_ok-task-in-Begin.ensures.items ∙ c.as_slice.ensures in
    λ xs denied h. turn-begin c.args.record.now denied xs c.in_ok-task-in-Begin.task.items c.args.open.now c.insert.new.self c.in_ok-insert-in-Begin.field-0 c.in-Begin.is task e.added e.updates e.len h

pub returns-in-Stop-clause-ok : goal.returns-in-Stop-clause-ok
returns-in-Stop-clause-ok c =
    let e = c.remove.ensures in
    λ xs denied h. turn-stop c.args.record.now denied xs c.as_slice-in-Stop.result.now c.args.open.now c.remove.new.self c.remove.result c.in-Stop.is c.as_slice-in-Stop.ensures e.test e.updates e.len h

pub returns-in-Watch-clause-ok : goal.returns-in-Watch-clause-ok
returns-in-Watch-clause-ok c = λ xs denied h. turn-other c.args.record.now denied xs c.args.open.now c.in-Watch.is h
