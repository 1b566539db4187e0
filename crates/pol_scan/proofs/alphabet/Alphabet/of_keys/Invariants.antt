use Rattle.pol_scan.proofs.Numbering.{AreNumbered}
use Rattle.pol_scan.proofs.alphabet.Alphabet.of_keys.Given as goal

-- the symbols so far have their columns
abbrev pub invariant-loop-place : goal.invariant-loop-place
invariant-loop-place l = AreNumbered l.keys l.firsts l.columns l.least l.width l.place
