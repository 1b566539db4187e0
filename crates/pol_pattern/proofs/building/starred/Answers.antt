use Rattle.std.proofs.Common.{ap, ◌∙◌}
use Rattle.pol_pattern.specs.Flat.{star}
use Rattle.pol_pattern.specs.Values.{value_star}
use Rattle.pol_pattern.proofs.building.starred.Goals as goal

pub returns : goal.returns
returns c = value_star c.in_ok-alternatives.field-0 ∙ ap star c.in_ok-alternatives.ensures
