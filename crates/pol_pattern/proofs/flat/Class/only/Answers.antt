use Rattle.std.proofs.Common.{false, ◌∙◌}
use Rattle.pol_pattern.proofs.Classes.{class_where-same, within_one}
use Rattle.pol_pattern.proofs.flat.Class.only.Goals as goal

pub returns : goal.returns
returns c = c.with_range.ensures (λ byte. false) c.none.ensures ∙ class_where-same _ _ (within_one c.args.symbol)
