use Rattle.std.proofs.Common.{refl, ◌∙◌, ◌++◌}
use Rattle.tac_desk.specs.Serving.{whole_packets}
use Rattle.tac_desk.proofs.ServingFacts.{said_on-pieces}
use Rattle.tac_server.proofs.TurningFacts.{begun, going_on, stopping, cut_short, none_said, says_err}
use Rattle.tac_server.proofs.turning.serve_piece.Goals as goal

pub returns-in_err-feed-clause-said : goal.returns-in_err-feed-clause-said
returns-in_err-feed-clause-said g c = λ before serves.
    says_err c.from_residual.result _ _ _ _ _ _ _ _ c.from_residual.ensures.0
    (none_said c.args.door.now (g.D.Desk.meaning c.args.desk.now) (g.D.Desk.meaning c.args.desk.now) c.args.out.now.items c.args.out.now.items before c.args.piece.now refl refl)

pub returns-in_err-feed-clause-pieces : goal.returns-in_err-feed-clause-pieces
returns-in_err-feed-clause-pieces g c = said_on-pieces c.args.door.now (c.in_err-feed.ensures.pieces c.args.door.now)

pub turns-init : goal.turns-init
turns-init g c = λ before serves.
    begun c.args.door.now (before ++ c.args.piece.now) (whole_packets c.args.door.now before) (g.D.Desk.meaning c.args.desk.now) c.args.out.now.items c.feed.new.self
    (c.in_ok-feed.ensures.closed ∙ serves.ready.0, c.in_ok-feed.ensures.pending ∙ serves.ready.1)
    (c.in_ok-feed.ensures.stands c.args.door.now before (whole_packets c.args.door.now before) serves.ready.0 serves.stands)

pub returns-in_err-closes-clause-said : goal.returns-in_err-closes-clause-said
returns-in_err-closes-clause-said g c = λ before serves.
    says_err c.from_residual-in_err-closes.result _ _ _ _ _ _ _ _ c.from_residual-in_err-closes.ensures.0
    (cut_short c.args.door.now (before ++ c.args.piece.now) (whole_packets c.args.door.now before) _ _ _ _ _ (c.turns.invariant before serves)
    c.take_turn.new.out.items (g.D.Desk.meaning c.take_turn.new.desk) c.in_err-closes.ensures.out c.in_err-closes.ensures.desk before c.args.piece.now refl refl)

pub returns-in_err-closes-clause-pieces : goal.returns-in_err-closes-clause-pieces
returns-in_err-closes-clause-pieces g c = said_on-pieces c.args.door.now (c.in_ok-feed.ensures.pieces c.args.door.now)

pub turns-preserved : goal.turns-preserved
turns-preserved g c = λ before serves.
    let p = c.turns.invariant before serves in
    going_on c.args.door.now (before ++ c.args.piece.now) (whole_packets c.args.door.now before) _ _ _ _ _ p _ _ _
    (rw c.in_default.is at (c.in_ok-closes.ensures.goes (before ++ c.args.piece.now) _ p.ready p.stands))

pub returns-in-Break-clause-said : goal.returns-in-Break-clause-said
returns-in-Break-clause-said g c = λ before serves.
    let p = c.turns.invariant before serves in
    stopping c.args.door.now (before ++ c.args.piece.now) (whole_packets c.args.door.now before) _ _ _ _ _ p c.in-Break.closes _ _ _
    (rw c.in-Break.is at (c.in_ok-closes.ensures.goes (before ++ c.args.piece.now) _ p.ready p.stands))

pub returns-in-Break-clause-pieces : goal.returns-in-Break-clause-pieces
returns-in-Break-clause-pieces g c = said_on-pieces c.args.door.now (c.in_ok-feed.ensures.pieces c.args.door.now)
