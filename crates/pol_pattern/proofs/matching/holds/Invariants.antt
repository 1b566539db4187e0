use Rattle.std.proofs.Common.{◌≡◌, length, take, drop}
use Rattle.pol_pattern.specs.Flat.{terms_value}
use Rattle.pol_pattern.specs.Matching.{terms_positions, ends_after, matches_terms}
use Rattle.pol_pattern.proofs.matching.holds.Given as goal

abbrev pub invariant-loop-symbol : goal.invariant-loop-symbol
invariant-loop-symbol l = record {
  wide : length l.marks ≡ 400;
  same : ends_after (terms_value l.terms) l.before (take (terms_positions (terms_value l.terms)) l.marks) (drop l.symbol-index l.text)
      ≡ matches_terms (terms_value l.terms) l.text;
}
