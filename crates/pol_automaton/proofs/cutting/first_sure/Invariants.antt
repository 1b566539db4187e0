use Rattle.std.proofs.Common.{◌≡◌, take}
use Rattle.pol_residual.specs.Residuals.{any_text}
use Rattle.pol_automaton.proofs.Matched.{HasNone}
use Rattle.pol_automaton.proofs.cutting.first_sure.Given as goal

abbrev pub invariant-loop-item : goal.invariant-loop-item
invariant-loop-item l = HasNone (λ term. term ≡ any_text) l.terms (take l.item-index l.items)
