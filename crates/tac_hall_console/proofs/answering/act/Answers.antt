use Rattle.std.proofs.Common.{refl}
use Rattle.tac_console.specs.declared.batching.Action.TheVariants as actions
use Rattle.tac_hall_console.specs.Operated.{ComesTo, noticed}
use Rattle.tac_hall_console.proofs.CallFacts.{tells_ok}
use Rattle.tac_hall_console.proofs.answering.act.Goals as goal

pub returns-in-Tell-clause-ok : goal.returns-in-Tell-clause-ok
returns-in-Tell-clause-ok g c =
    rw c.in-Tell.is
    (tells_ok (ComesTo g.J.Run.opening c.args.seat.now (actions.Tell c.in-Tell.notice)) (noticed c.in-Tell.notice) c.args.seat.now c.args.out.now.items c.write_notice.new.out.items c.write_notice.result
    (refl, refl) c.write_notice.ensures.ok)
