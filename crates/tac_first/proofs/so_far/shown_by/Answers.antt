use Rattle.tac_first.proofs.SoFarFacts.{stays}
use Rattle.tac_first.proofs.so_far.shown_by.Goals as goal

pub returns-clause-stays : goal.returns-clause-stays
returns-clause-stays c = stays c.args.keys.now
