use Rattle.pol_pattern.proofs.HeldTexts.{match_law}
use Rattle.tac_io.proofs.Answered.{answered, at_end}
use Rattle.tac_review.specs.Check.{IsOnlyCheck}
use Rattle.tac_review.proofs.checking.check.Goals as goal

pub returns-clause-read : goal.returns-clause-read
returns-clause-read g c = at_end IsOnlyCheck (g.R.Read.remaining c.args.reader.now) _ _ _ _ _ c.answer.ensures.end c.write_answer.ensures

pub returns-clause-answered : goal.returns-clause-answered
returns-clause-answered g c = answered IsOnlyCheck _ _ _ _ _ c.answer.ensures.worked c.write_answer.ensures

pub returns-clause-matching : goal.returns-clause-matching
returns-clause-matching g c = match_law
