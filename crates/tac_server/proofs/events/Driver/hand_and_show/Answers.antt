use Rattle.std.proofs.Common.{ℕ, List, [], Ok, Err, sym, subst}
use Rattle.tac_wire.specs.declared.door.Door.TheVariants.{Padded}
use Rattle.tac_server.specs.Kept.{Sends, IsHeardUnlessMemory}
use Rattle.tac_server.proofs.RunFacts.{hands_line, not_handed}
use Rattle.tac_server.proofs.events.Driver.hand_and_show.Goals as goal

pub returns-in-Ok-show : goal.returns-in-Ok-show
returns-in-Ok-show g c = λ state has.
    hands_line g.D.Desk.meaning c.key.result.now c.args.line c.args.number c.args.bytes.now c.hand_in.new.self.server state c.hand_in.new.out.items c.in-Ok.closes c.args.out.now.items c.show.new.out.items
    c.key.ensures
    (subst (λ (n : ℕ). IsHeardUnlessMemory g.D.Desk.meaning [] c.hand_in.new.out.items c.hand_in.new.self.server n c.args.bytes.now state (Ok c.in-Ok.closes)) c.from.ensures
    (subst (λ (l : List ℕ). IsHeardUnlessMemory g.D.Desk.meaning l c.hand_in.new.out.items c.hand_in.new.self.server c.from.result c.args.bytes.now state (Ok c.in-Ok.closes)) c.new-sent.ensures.items
    (c.in-Ok.ensures state has)))
    (λ said s e. c.in-Ok-show.ensures said (subst (λ (l : List ℕ). Sends (Padded c.key.result.now) [] l said.sent) (sym c.as_slice.ensures.value) s) e)

pub returns : goal.returns
returns g c = λ state has.
    not_handed g.D.Desk.meaning c.args.line c.args.number c.args.bytes.now c.hand_in.new.self.server state c.hand_in.new.out.items c.args.out.now.items c.in-Err.fault c.stop_at.result c.stop_at.ensures
    (subst (λ (n : ℕ). IsHeardUnlessMemory g.D.Desk.meaning [] c.hand_in.new.out.items c.hand_in.new.self.server n c.args.bytes.now state (Err c.in-Err.fault)) c.from.ensures
    (subst (λ (l : List ℕ). IsHeardUnlessMemory g.D.Desk.meaning l c.hand_in.new.out.items c.hand_in.new.self.server c.from.result c.args.bytes.now state (Err c.in-Err.fault)) c.new-sent.ensures.items
    (c.in-Err.ensures state has)))
