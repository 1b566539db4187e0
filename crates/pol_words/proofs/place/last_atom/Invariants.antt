use Rattle.std.proofs.Common.{length}
use Rattle.pol_words.proofs.place.last_atom.Given as goal

abbrev pub decreases-symbols : goal.decreases-symbols
decreases-symbols l = length l.rest
