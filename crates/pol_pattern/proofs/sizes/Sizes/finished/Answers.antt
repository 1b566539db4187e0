use Rattle.std.proofs.Common.{ap, arith}
use Rattle.pol_pattern.specs.Flat.{alt, none, join_term}
use Rattle.pol_pattern.specs.declared.sizes.Sizes.{Sizes}
use Rattle.pol_pattern.proofs.Counts.{size-join_term, size-join_terms}
use Rattle.pol_pattern.proofs.sizes.Sizes.finished.Goals as goal

pub returns : goal.returns
returns c = λ level is.
    omega (
      arith,
      ap (λ (s : Sizes). s.done) is,
      ap (λ (s : Sizes). s.before) is,
      ap (λ (s : Sizes). s.last) is,
      c.capped_sum.ensures,
      c.capped_sum-2.ensures,
      size-join_terms level.done (alt (join_term level.before level.last) none),
      size-join_term level.before level.last,
    )
