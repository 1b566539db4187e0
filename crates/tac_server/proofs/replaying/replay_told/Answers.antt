use Rattle.std.proofs.Common.{refl}
use Rattle.pol_pattern.proofs.HeldTexts.{match_law}
use Rattle.pol_meaning.proofs.DecidingFacts.{decision_law}
use Rattle.tac_io.proofs.Answered.{answered, at_end}
use Rattle.tac_server.specs.Script.{IsWorkedOut}
use Rattle.tac_server.proofs.SpellingFacts.{event_law}
use Rattle.tac_server.proofs.replaying.replay_told.Goals as goal

pub returns-in-Ok-clause-read : goal.returns-in-Ok-clause-read
returns-in-Ok-clause-read g c = rw c.in-Ok.is at (at_end IsWorkedOut (g.R.Read.remaining c.args.reader.now) _ _ _ _ _ c.answer.ensures.end c.write_answer.ensures)

pub returns-in-Ok-clause-replayed : goal.returns-in-Ok-clause-replayed
returns-in-Ok-clause-replayed g c = record {
  answer = c.write_answer.result;
  answers = answered IsWorkedOut _ _ _ _ _ c.answer.ensures.worked c.write_answer.ensures;
  ends = rw c.in-Ok.is refl;
}

pub returns-in-Ok-clause-matching : goal.returns-in-Ok-clause-matching
returns-in-Ok-clause-matching g c = match_law

pub returns-in-Ok-clause-law : goal.returns-in-Ok-clause-law
returns-in-Ok-clause-law g c = decision_law

pub returns-in-Ok-clause-events : goal.returns-in-Ok-clause-events
returns-in-Ok-clause-events g c = event_law

pub returns-in-Err-clause-replayed : goal.returns-in-Err-clause-replayed
returns-in-Err-clause-replayed g c = record {
  answer = c.write_answer.result;
  answers = answered IsWorkedOut _ _ _ _ _ c.answer.ensures.worked c.write_answer.ensures;
  ends = rw (c.in-Err.is, c.from.ensures) refl;
}

pub returns-in-Err-clause-matching : goal.returns-in-Err-clause-matching
returns-in-Err-clause-matching g c = match_law

pub returns-in-Err-clause-law : goal.returns-in-Err-clause-law
returns-in-Err-clause-law g c = decision_law

pub returns-in-Err-clause-events : goal.returns-in-Err-clause-events
returns-in-Err-clause-events g c = event_law
