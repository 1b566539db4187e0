use Rattle.std.proofs.Common.{◌≡◌, length}
use Rattle.pol_words.specs.Reasons.{from_two_blanks}
use Rattle.pol_words.proofs.reason.from_two_blanks.Given as goal

abbrev pub invariant-loop-rest : goal.invariant-loop-rest
invariant-loop-rest l = from_two_blanks l.rest ≡ from_two_blanks l.line

abbrev pub decreases-loop-rest : goal.decreases-loop-rest
decreases-loop-rest l = length l.rest
