use Rattle.tac_io.proofs.Answered.{answered, at_end}
use Rattle.tac_start.specs.Opening.{IsDeskOfText}
use Rattle.tac_start.proofs.opening.open_desk.Goals as goal

pub returns-clause-read : goal.returns-clause-read
returns-clause-read g c = at_end (IsDeskOfText c.args.limit) (g.R.Read.remaining c.args.reader.now) _ _ _ _ _ c.answer.ensures.end c.write_answer.ensures

pub returns-clause-answered : goal.returns-clause-answered
returns-clause-answered g c = answered (IsDeskOfText c.args.limit) _ _ _ _ _ c.answer.ensures.worked c.write_answer.ensures
