-- What remains of a set of terms after a text: the derivatives of the terms by its symbols, one
-- after another.
use Rattle.std.specs.Prelude.{◌↔◌, ℕ, List, [], ◌∷◌, ◌++◌}
use Rattle.pol_pattern.specs.Flat.{Term}
use Rattle.pol_residual.specs.Derivative.{Derivatives}

abbrev pub After : (Term → Type 0) → List ℕ → Term → Type 0
After set [] = set
After set (symbol ∷ text) = After (Derivatives symbol set) text

pub derivatives_more : (A B : Term → Type 0) (symbol : ℕ) → ((term : Term) → A term → B term)
    → (next : Term)
    → Derivatives symbol A next → Derivatives symbol B next
derivatives_more A B symbol more next w = (w.0, more w.0 w.1, w.2)

pub after_more : (A B : Term → Type 0) (text : List ℕ) → ((term : Term) → A term → B term)
    → (term : Term)
    → After A text term → After B text term
after_more A B [] more term h = more term h
after_more A B (symbol ∷ text) more term h =
    after_more (Derivatives symbol A) (Derivatives symbol B) text
    (derivatives_more A B symbol more) term h

pub after_same : (A B : Term → Type 0) (text : List ℕ) → ((term : Term) → A term ↔ B term)
    → (term : Term)
    → After A text term ↔ After B text term
after_same A B text same term =
    (after_more A B text (λ t. (same t).0) term, after_more B A text (λ t. (same t).1) term)

pub after_push : (set : Term → Type 0) (text : List ℕ) (symbol : ℕ) (term : Term)
    → After set (text ++ symbol ∷ []) term ↔ Derivatives symbol (After set text) term
after_push set [] symbol term = (λ h. h, λ h. h)
after_push set (first ∷ text) symbol term = after_push (Derivatives first set) text symbol term
