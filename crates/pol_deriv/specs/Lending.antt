-- What terms are after derivatives of one of them were lent.
use Rattle.std.specs.Prelude.{ℕ, ⊤, List, Result, IfOk}
use Rattle.std.specs.Borrow.{follows_so, Fml, MutBor, Bor}
use Rattle.std.specs.declared.alloc.AllocError.{AllocError}
use mathlib.Core.Option.{none}
use Rattle.pol_pattern.specs.Flat.{Term}
use Rattle.pol_residual.specs.Derivative.{Derivative}
use Rattle.pol_deriv.specs.Table.{Means, Grows, IsSetOf}
use Rattle.pol_deriv.specs.contracts.terms.Terms.{the_row}

-- the terms grew, and among them the lent numbers are the derivatives of the
-- number's term by the symbol
abbrev pub LendsDerivatives : MutBor (List Term) → ℕ → ℕ → Result (Bor (List ℕ)) AllocError → Fml
LendsDerivatives terms number symbol result =
    follows_so the_row the_row terms.ghost_name none (λ _ _. ⊤)
    (λ after. Grows terms.now after
    × IfOk result (λ numbers. (term : Term) → Means terms.now number term
    → IsSetOf after numbers.now (Derivative symbol term)))
