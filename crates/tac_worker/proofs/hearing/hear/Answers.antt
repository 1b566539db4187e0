use Rattle.std.proofs.Common.{sym, append-nil}
use Rattle.tac_worker.proofs.HearFacts.{prolongs_cut, hears_nothing, heard_memory, noted_nothing, noted_memory, noted_more}
use Rattle.tac_worker.proofs.hearing.hear.Goals as goal

pub returns-in-Ok-None-clause-heard : goal.returns-in-Ok-None-clause-heard
returns-in-Ok-None-clause-heard g c = hears_nothing _ _ _ (rw (c.in-Ok-None.is, c.in-Ok-None.field-0-is) at c.read_piece.ensures.bytes)

pub returns-in-Ok-None-clause-noted : goal.returns-in-Ok-None-clause-noted
returns-in-Ok-None-clause-noted g c = noted_nothing _ _ _ _ (rw (c.in-Ok-None.is, c.in-Ok-None.field-0-is) at c.read_piece.ensures.bytes)

pub returns-in_err-feed-clause-heard : goal.returns-in_err-feed-clause-heard
returns-in_err-feed-clause-heard g c =
    let read = rw (c.in-Ok-Some.is, c.in-Ok-Some.field-0-is) at c.read_piece.ensures.bytes in
    heard_memory _ _ _ _ _ _ c.from_residual.ensures.1 c.in_err-feed.ensures.memory read.0 (prolongs_cut _ c.in_err-feed.ensures.pieces)

pub returns-in_err-feed-clause-noted : goal.returns-in_err-feed-clause-noted
returns-in_err-feed-clause-noted g c =
    let read = rw (c.in-Ok-Some.is, c.in-Ok-Some.field-0-is) at c.read_piece.ensures.bytes in
    noted_memory _ _ _ _ _ _ _ _ c.add.ensures c.from_residual.ensures.1 c.in_err-feed.ensures.memory read.0 (prolongs_cut _ c.in_err-feed.ensures.pieces)

pub returns-clause-heard : goal.returns-clause-heard
returns-clause-heard g c =
    let read = rw (c.in-Ok-Some.is, c.in-Ok-Some.field-0-is) at c.read_piece.ensures.bytes in
    record {
      piece = _;
      read = read.0;
      prolongs = prolongs_cut _ c.in_ok-feed.ensures.pieces;
      closed = c.in_ok-feed.ensures.closed;
      pending = c.in_ok-feed.ensures.pending;
      stands = c.in_ok-feed.ensures.stands;
    }

pub returns-clause-noted : goal.returns-clause-noted
returns-clause-noted g c =
    let read = rw (c.in-Ok-Some.is, c.in-Ok-Some.field-0-is) at c.read_piece.ensures.bytes in
    noted_more _ _ _ _ _ _ _ c.add.ensures read.0 (record {
      piece = _;
      read = sym (append-nil _);
      prolongs = prolongs_cut _ c.in_ok-feed.ensures.pieces;
      closed = c.in_ok-feed.ensures.closed;
      pending = c.in_ok-feed.ensures.pending;
      stands = c.in_ok-feed.ensures.stands;
    })
