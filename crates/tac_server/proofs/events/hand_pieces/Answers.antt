use Rattle.std.proofs.Common.{subst, true, false, Ok, Err}
use Rattle.std.proofs.lemmas.Result.{err_from_is_err_and}
use Rattle.tac_server.proofs.ServerFacts.{Law, closed_here, done_here, more_here, refused_here}
use Rattle.tac_server.proofs.events.hand_pieces.Goals as goal

pub returns-in_err-closes : goal.returns-in_err-closes
returns-in_err-closes g c = λ state has.
    let p = err_from_is_err_and c.from_residual.result c.from_residual.ensures.1 in
    rw (p.1, p.2) (c.pieces.invariant c.feed_told.new.out.items c.feed_told.new.self (Err c.in_err-closes.field-0.0)
    (λ next had. refused_here g.D.Desk.meaning _ c.pieces.rest.now c.split_at.result.0.now c.split_at.result.1.now c.split_at.ensures.front c.split_at.ensures.back
    c.pieces.out.items c.feed_told.new.out.items c.feed_told.new.self c.args.conn true next c.in_err-closes.field-0.0
    (c.in_err-closes.ensures.heard next had)) state has)

pub returns-then-closes : goal.returns-then-closes
returns-then-closes g c =
    c.pieces.invariant c.feed_told.new.out.items c.feed_told.new.self (Ok true)
    (λ next had. closed_here g.D.Desk.meaning _ c.pieces.rest.now c.split_at.result.0.now c.split_at.result.1.now c.split_at.ensures.front c.split_at.ensures.back
    c.pieces.out.items c.feed_told.new.out.items c.feed_told.new.self c.args.conn c.in_ok-closes.closes c.if-closes.true
    next (subst Law had.key c.in_ok-closes.ensures.pieces) (c.in_ok-closes.ensures.heard next had))

pub returns-then-is_empty : goal.returns-then-is_empty
returns-then-is_empty g c =
    c.pieces.invariant c.feed_told.new.out.items c.feed_told.new.self (Ok false)
    (λ next had. done_here g.D.Desk.meaning _ c.pieces.rest.now c.split_at.result.0.now c.split_at.result.1.now c.split_at.ensures.front c.split_at.ensures.back
    c.pieces.out.items c.feed_told.new.out.items c.feed_told.new.self c.args.conn c.in_ok-closes.closes c.if-closes.false
    c.if-is_empty.ensures next (c.in_ok-closes.ensures.heard next had))

pub pieces-preserved : goal.pieces-preserved
pieces-preserved g c = λ last server result goes_on. c.pieces.invariant last server result
    (λ next had. more_here g.D.Desk.meaning _ c.pieces.rest.now c.split_at.result.0.now c.split_at.result.1.now c.split_at.ensures.front c.split_at.ensures.back
    c.pieces.out.items c.feed_told.new.out.items c.feed_told.new.self c.args.conn c.in_ok-closes.closes c.if-closes.false
    last server result goes_on next (subst Law had.key c.in_ok-closes.ensures.pieces) (c.in_ok-closes.ensures.heard next had))
