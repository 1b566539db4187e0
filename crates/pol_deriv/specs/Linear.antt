-- Linear forms (Antimirov, as in Derivative): the derivatives of a term by all
-- symbols at once, as pairs of a class and a term. A derivative by a symbol is the
-- term of a pair whose class holds the symbol.
use Rattle.std.specs.Prelude.{◌≡◌, ◌⊎◌, ℕ, Bool, true, false, IsTrue, ◌&&◌, ◌||◌, List, [], ◌∷◌}
use Rattle.std.specs.Prelude.{◌++◌, if◌then◌else◌}
use Rattle.pol_pattern.specs.Flat.{Class, holds_symbol, Factor, class, group, star, Term, empty}
use Rattle.pol_pattern.specs.Flat.{put, Terms, none, alt, join_term}

-- whether a part holds the empty text
abbrev mutual
  pub factor_holds_empty : Factor → Bool
  factor_holds_empty (class c) = false
  factor_holds_empty (group terms) = terms_hold_empty terms
  factor_holds_empty (star terms) = true

  pub term_holds_empty : Term → Bool
  term_holds_empty empty = true
  term_holds_empty (put factor rest) = factor_holds_empty factor && term_holds_empty rest

  pub terms_hold_empty : Terms → Bool
  terms_hold_empty none = false
  terms_hold_empty (alt first others) = term_holds_empty first || terms_hold_empty others

-- what follows each term of a group or a star, where this follows the whole: a star goes on
abbrev pub continuation : Factor → Term → Term
continuation (class c) after = after
continuation (group terms) after = after
continuation (star terms) after = put (star terms) after

-- what a part begins with, where this term follows it
abbrev mutual
  pub factor_linear : Factor → Term → List (Class × Term)
  factor_linear (class c) after = (c, after) ∷ []
  factor_linear (group terms) after = terms_linear terms (continuation (group terms) after)
  factor_linear (star terms) after = terms_linear terms (continuation (star terms) after)

  -- what follows a factor counts as a beginning only where the factor holds the empty text
  pub linear : Term → Term → List (Class × Term)
  linear empty after = []
  linear (put factor rest) after =
      factor_linear factor (join_term rest after)
      ++ (if factor_holds_empty factor then linear rest after else [])

  pub terms_linear : Terms → Term → List (Class × Term)
  terms_linear none after = []
  terms_linear (alt first others) after = linear first after ++ terms_linear others after

-- the term is that of a pair whose class holds the symbol
abbrev pub Leads : ℕ → List (Class × Term) → Term → Type 0
Leads symbol [] next = ⊥
Leads symbol (pair ∷ pairs) next =
    (IsTrue (holds_symbol pair.0 symbol) × (next ≡ pair.1)) ⊎ Leads symbol pairs next
