use Rattle.std.proofs.Common.{ap, arith}
use Rattle.pol_pattern.specs.declared.sizes.Sizes.{Sizes}
use Rattle.pol_pattern.proofs.Counts.{size-join_term, same_sizes}
use Rattle.pol_pattern.proofs.sizes.Sizes.with_factor.Goals as goal

pub returns : goal.returns
returns c = λ level factors is size one.
    same_sizes _ _ _ _ _ _ _ _
    (ap (λ (s : Sizes). s.done) is)
    (omega (arith, ap (λ (s : Sizes). s.before) is, ap (λ (s : Sizes). s.last) is, c.capped_sum.ensures, size-join_term level.before level.last))
    size one
