use Rattle.std.proofs.Common.{length}
use Rattle.pol_habits.proofs.habits.ask_within.Given as goal

abbrev pub decreases-symbols : goal.decreases-symbols
decreases-symbols l = length l.rest
