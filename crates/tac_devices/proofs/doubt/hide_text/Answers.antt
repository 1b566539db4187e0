use Rattle.std.proofs.Common.{◌∙◌, ◌+◌, arith, refl}
use Rattle.std.proofs.Math.Nat.{mod-lt}
use Rattle.tac_devices.proofs.DoubtFacts.{symbol_past}
use Rattle.tac_devices.proofs.doubt.hide_text.Goals as goal

pub symbols-preserved : goal.symbols-preserved
symbols-preserved c = (
  mod-lt (c.symbols.place + 1) (omega arith),
  symbol_past c.symbols.place _ c.symbols.rest.now c.in-len2-up.len_at_least refl c.if-not-hide_symbol.ensures ∙ c.symbols.invariant.1,
)
