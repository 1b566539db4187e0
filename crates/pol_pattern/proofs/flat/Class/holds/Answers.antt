use Rattle.std.proofs.Common.{sym, ◌∙◌}
use Rattle.pol_pattern.proofs.ClassBits.{symbol_bit}
use Rattle.pol_pattern.proofs.flat.Class.holds.Goals as goal

pub returns-then-is_symbol : goal.returns-then-is_symbol
returns-then-is_symbol c = symbol_bit _ _ _ c.self.view_is (sym c.is_symbol.ensures ∙ c.if-is_symbol.true)
