use Rattle.tac_roll.proofs.Moves.{begins}
use Rattle.tac_roll.proofs.roll.Roll.new.Goals as goal

pub of_words-requires : goal.of_words-requires
of_words-requires g c = begins
