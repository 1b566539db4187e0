use Rattle.std.proofs.Common.{length}
use Rattle.pol_faults.proofs.searching.dot_after_search.Given as goal

abbrev pub decreases-symbols : goal.decreases-symbols
decreases-symbols l = length l.rest
