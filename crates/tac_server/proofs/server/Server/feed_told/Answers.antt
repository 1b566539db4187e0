use Rattle.std.proofs.Common.{Some, Ok, Err, true, false, refl, sym}
use Rattle.tac_wire.specs.declared.door.Door.TheVariants.{Padded}
use Rattle.tac_wire.proofs.StreamFacts.{cut-append}
use Rattle.tac_desk.proofs.ServingFacts.{said_on-pieces}
use Rattle.tac_server.proofs.ServerFacts.{heard_open, heard_closing, heard_short, removed, some_found}
use Rattle.tac_server.proofs.CourseFacts.{run_heard, run_after_fault}
use Rattle.tac_server.specs.declared.server.ServerFault.TheVariants.{Memory}
use Rattle.tac_server.proofs.server.Server.feed_told.Goals as goal

pub returns-in_default-clause-pieces : goal.returns-in_default-clause-pieces
returns-in_default-clause-pieces g c = said_on-pieces (Padded c.args.self.now.key) (cut-append (Padded c.args.self.now.key))

pub returns-in-Ok-false-clause-heard : goal.returns-in-Ok-false-clause-heard
returns-in-Ok-false-clause-heard g c = λ state has.
    heard_open g.D.Desk.meaning c.args.self.now _ c.args.conn c.in-Some.stream.now c.serve_piece.new.stream c.args.out.now.items c.serve_piece.new.out.items c.args.piece.now
    (sym c.in-Some.ensures.value) refl refl state has
    (λ before serves. rw (c.door-door.ensures, c.in-Ok-false.field-0-test) at (c.in-Ok-false.ensures.said before (rw c.door-door.ensures serves)))
    ((c.get_mut.follows.holds c.serve_piece.new.stream).3 (some_found _ c.in-Some.stream.now c.in-Some.ensures.value)).0

pub returns-in-Ok-true-clause-heard : goal.returns-in-Ok-true-clause-heard
returns-in-Ok-true-clause-heard g c = λ state has.
    heard_closing g.D.Desk.meaning c.args.self.now _ c.args.conn c.in-Some.stream.now c.serve_piece.new.stream c.args.out.now.items c.serve_piece.new.out.items c.args.piece.now
    (sym c.in-Some.ensures.value) refl refl state has
    (λ before serves. rw (c.door-door.ensures, c.in-Ok-true.field-0-test) at (c.in-Ok-true.ensures.said before (rw c.door-door.ensures serves)))
    (removed c.args.self.now.connections (c.get_mut.follows.lender c.serve_piece.new.stream) c.remove.new.self c.args.conn (Some c.serve_piece.new.stream)
    ((c.get_mut.follows.holds c.serve_piece.new.stream).3 (some_found _ c.in-Some.stream.now c.in-Some.ensures.value)).0 c.remove.ensures.updates.0)

pub returns-in-Ok-false-clause-course : goal.returns-in-Ok-false-clause-course
returns-in-Ok-false-clause-course g c =
    run_heard g.D.Desk.meaning c.args.self.now _ c.args.out.now.items c.serve_piece.new.out.items c.args.conn c.args.piece.now (Ok false) (returns-in-Ok-false-clause-heard g c)

pub returns-in-Ok-true-clause-course : goal.returns-in-Ok-true-clause-course
returns-in-Ok-true-clause-course g c =
    run_heard g.D.Desk.meaning c.args.self.now _ c.args.out.now.items c.serve_piece.new.out.items c.args.conn c.args.piece.now (Ok true) (returns-in-Ok-true-clause-heard g c)

pub returns-in-Err-clause-heard : goal.returns-in-Err-clause-heard
returns-in-Err-clause-heard g c = λ state has.
    heard_short g.D.Desk.meaning c.args.self.now _ c.args.conn c.in-Some.stream.now c.serve_piece.new.stream c.args.out.now.items c.serve_piece.new.out.items c.args.piece.now
    (sym c.in-Some.ensures.value) refl refl state has c.in-Err.field-0 (λ before serves. rw c.door-door.ensures at (c.in-Err.ensures.said before (rw c.door-door.ensures serves)))
    (removed c.args.self.now.connections (c.get_mut.follows.lender c.serve_piece.new.stream) c.remove-in-Err.new.self c.args.conn (Some c.serve_piece.new.stream)
    ((c.get_mut.follows.holds c.serve_piece.new.stream).3 (some_found _ c.in-Some.stream.now c.in-Some.ensures.value)).0 c.remove-in-Err.ensures.updates.0)

pub returns-in-Err-clause-after_fault : goal.returns-in-Err-clause-after_fault
returns-in-Err-clause-after_fault g c =
    run_after_fault g.D.Desk.meaning c.args.self.now _ c.args.out.now.items c.serve_piece.new.out.items c.args.conn c.args.piece.now (Err (Memory false)) (returns-in-Err-clause-heard g c)
