use Rattle.tac_first.proofs.FitFacts.{shows_its_key}
use Rattle.tac_first.proofs.choosing.choose.Goals as goal

pub returns-in-Some-clause-own : goal.returns-in-Some-clause-own
returns-in-Some-clause-own c = shows_its_key c.args.keys.now
