use Rattle.std.proofs.Common.{ℕ, List, subst}
use Rattle.tac_server.specs.declared.event.Event.TheVariants.{Hand, Console}
use Rattle.tac_server.specs.Kept.{IsDoneUnless}
use Rattle.tac_server.proofs.RunFacts.{keeps_line, loses_line}
use Rattle.tac_server.proofs.events.Driver.do_event.Goals as goal

pub returns-in-Open : goal.returns-in-Open
returns-in-Open g c = λ state has. rw c.in-Open.is (c.open.ensures state c.args.out.now.items has)

pub returns-in-Hand : goal.returns-in-Hand
returns-in-Hand g c = λ state has. rw c.in-Hand.is
    (subst (λ (bytes : List ℕ). IsDoneUnless g.D.Desk.meaning c.args.line c.args.out.now.items c.hand_and_show.new.out.items c.hand_and_show.new.self.server state (Hand c.in-Hand.number bytes) c.hand_and_show.result)
    c.as_slice.ensures (c.hand_and_show.ensures state has))

pub returns-in-Pieces : goal.returns-in-Pieces
returns-in-Pieces g c = λ state has. rw c.in-Pieces.is (keeps_line g.D.Desk.meaning c.args.line c.in-Pieces.size c.args.self.now.server state c.args.out.now.items has)

pub returns-in-Lost : goal.returns-in-Lost
returns-in-Lost g c = λ state has. rw c.in-Lost.is
    (loses_line g.D.Desk.meaning c.args.line c.in-Lost.number c.lost.new.self state c.args.out.now.items (rw c.from.ensures at (c.lost.ensures.step state has)))

pub returns-in-Console : goal.returns-in-Console
returns-in-Console g c = λ state has. rw c.in-Console.is
    (subst (λ (line : List ℕ). IsDoneUnless g.D.Desk.meaning c.args.line c.args.out.now.items c.tell.new.out.items c.tell.new.self.server state (Console line) c.tell.result)
    c.as_slice-in-Console.ensures (c.tell.ensures c.args.line state has))
