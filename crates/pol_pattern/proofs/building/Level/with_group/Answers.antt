use Rattle.std.proofs.Common.{refl, ap, ◌∙◌, arith}
use Rattle.pol_pattern.specs.Flat.{group}
use Rattle.pol_pattern.specs.Reading.{finished}
use Rattle.pol_pattern.specs.Values.{value_group}
use Rattle.pol_pattern.proofs.building.Level.with_group.Goals as goal

pub returns : goal.returns
returns c = λ level inner same inside.
    c.with_factor.ensures level (group (finished inner)) same
    (omega (arith, c.capped_sum-size.ensures, c.finished.ensures inner inside.sizes)) refl
    (λ fits. value_group c.in_ok-terms.terms ∙ ap group (c.in_ok-terms.ensures inner inside (omega (arith, fits))))
