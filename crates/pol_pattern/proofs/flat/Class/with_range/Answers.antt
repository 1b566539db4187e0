use Rattle.std.proofs.Common.{◌∙◌}
use Rattle.pol_pattern.proofs.ClassBits.{with_bits-small, with_bits-range}
use Rattle.pol_pattern.proofs.flat.Class.with_range.Goals as goal

pub invariant_of-result : goal.invariant_of-result
invariant_of-result c = with_bits-small _ _ _ _ c.symbols_below-through.ensures c.self.invariant

pub returns : goal.returns
returns c = λ test is.
    with_bits-range _ _ _ _ _ _ test c.symbols_below-before.ensures c.symbols_below-through.ensures c.saturating_add.ensures (c.self.view_is ∙ is)
