-- Partial derivatives of terms (V. Antimirov, "Partial derivatives of regular
-- expressions and finite automaton constructions", 1996), and the residuals of
-- patterns by texts.
use Rattle.std.specs.Prelude.{◌≡◌, ◌⊎◌, ◌↔◌, ℕ, IsTrue, List, [], ◌∷◌, ◌++◌}
use Rattle.pol_pattern.specs.Flat.{Class, holds_symbol, class, group, star, Term, put, Terms, none}
use Rattle.pol_pattern.specs.Flat.{alt, join_term}
use Rattle.pol_pattern.specs.Sets.{InTerm, InTerms}

-- the term is one of the terms
abbrev pub IsAmong : Terms → Term → Type 0
IsAmong none term = ⊥
IsAmong (alt first others) term = (term ≡ first) ⊎ IsAmong others term

-- the partial derivatives of a term by a symbol; the empty term has none
pub data Derivative (symbol : ℕ) : Term → Term → Type 0 where
  -- of a class and the rest: the rest, if the symbol is in the class
  of_class : {c : Class} {rest : Term} → IsTrue (holds_symbol c symbol)
      → Derivative symbol (put (class c) rest) rest
  -- of a group and the rest: those of each alternative with the rest after it
  of_group : {terms : Terms} {rest next : Term} (alternative : Term) → IsAmong terms alternative
      → Derivative symbol (join_term alternative rest) next
      → Derivative symbol (put (group terms) rest) next
  -- of a star and the rest: those of each of its terms, each with the star and the rest after it ..
  of_star : {terms : Terms} {alternative rest next : Term} → IsAmong terms alternative
      → Derivative symbol alternative next
      → Derivative symbol (put (star terms) rest) (join_term next (put (star terms) rest))
  -- .. and those of the rest
  after_star : {terms : Terms} {rest next : Term} → Derivative symbol rest next
      → Derivative symbol (put (star terms) rest) next

-- all derivatives by a symbol of the terms of a set
abbrev pub Derivatives : ℕ → (Term → Type 0) → Term → Type 0
Derivatives symbol set next = (term : Term) × set term × Derivative symbol term next

-- the residual of a pattern by a text: by the empty text its terms, by a text that
-- ends in a symbol all derivatives by that symbol of the terms of the residual
-- before
pub data Residual (pattern : Terms) : List ℕ → Term → Type 0 where
  at_first : {term : Term} → IsAmong pattern term → Residual pattern [] term
  by_more : {text : List ℕ} {symbol : ℕ} {term next : Term} → Residual pattern text term
      → Derivative symbol term next
      → Residual pattern (text ++ symbol ∷ []) next

-- so by the empty text it is the pattern's terms, and no others
abbrev pub FirstResidual : Type 0
FirstResidual = (pattern : Terms) (term : Term) → Residual pattern [] term ↔ IsAmong pattern term

-- and by one symbol more the derivatives, and no others
abbrev pub NextResidual : Type 0
NextResidual =
    (pattern : Terms) (text : List ℕ) (symbol : ℕ) (next : Term)
    → Residual pattern (text ++ symbol ∷ []) next ↔ Derivatives symbol (Residual pattern text) next

-- ---- what they are for

-- a term holds a symbol followed by a text exactly if one of its derivatives by the
-- symbol holds the text
abbrev pub DerivativeLaw : Type 0
DerivativeLaw =
    (term : Term) (symbol : ℕ) (text : List ℕ) → InTerm term (symbol ∷ text)
    ↔ ((next : Term) × Derivative symbol term next × InTerm next text)

-- a pattern holds a text followed by another exactly if a term of its residual by
-- the one holds the other
abbrev pub ResidualLaw : Type 0
ResidualLaw =
    (pattern : Terms) (text rest : List ℕ) → InTerms pattern (text ++ rest)
    ↔ ((term : Term) × Residual pattern text term × InTerm term rest)
