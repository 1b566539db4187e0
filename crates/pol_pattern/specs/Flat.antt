-- The flat form of a pattern: its alternatives are terms, and a term is factors one after another
-- (docs/DEFINITIONS.md, "Patterns").
use Rattle.std.specs.Prelude.{ℕ, zero, suc, ◌+◌, ◌-◌, Bool, ◌&&◌, false, List, [], ◌∷◌, map}
use Rattle.std.specs.Prelude.{slice_index_or}
use Rattle.std.specs.Global.{Vec}
use Rattle.basics.specs.Symbol.{is_symbol}
use Rattle.pol_pattern.specs.declared.flat.Factor.{Factor as FactorValue}
use Rattle.pol_pattern.specs.declared.flat.Factor.TheOpen.{Factor-F}
use Rattle.pol_pattern.specs.declared.flat.Factor.TheFolds.{fold-Factor}

-- ---- classes: a class is a set of symbols, and says of each of the 95, in order,
-- whether it holds it

abbrev pub Class : Type 0
Class = List Bool

-- count numbers from the first on
unfoldable pub numbers_from : ℕ → ℕ → List ℕ
numbers_from first zero = []
numbers_from first (suc count) = first ∷ numbers_from (first + 1) count

-- the class of the symbols for which the test is true
unfoldable pub class_where : (ℕ → Bool) → Class
class_where test = map test (numbers_from 0x20 95)

unfoldable pub holds_symbol : Class → ℕ → Bool
holds_symbol class byte = is_symbol byte && slice_index_or class (byte - 0x20) false

-- ---- factors, terms, and lists of terms

mutual
  pub data Factor : Type 0 where
    class : Class → Factor
    group : Terms → Factor
    star : Terms → Factor

  pub data Term : Type 0 where
    empty : Term
    put : Factor → Term → Term

  pub data Terms : Type 0 where
    none : Terms
    alt : Term → Terms → Terms

-- terms one after another, and the factors of two terms one after another
abbrev pub join_terms : Terms → Terms → Terms
join_terms none others = others
join_terms (alt term terms) others = alt term (join_terms terms others)

abbrev pub join_term : Term → Term → Term
join_term empty others = others
join_term (put factor term) others = put factor (join_term term others)

-- a pattern's size: a class counts 1, a group or a star 1 and the factors in its terms
abbrev mutual
  pub factor_size : Factor → ℕ
  factor_size (class c) = 1
  factor_size (group terms) = 1 + terms_size terms
  factor_size (star terms) = 1 + terms_size terms

  pub term_size : Term → ℕ
  term_size empty = 0
  term_size (put factor term) = factor_size factor + term_size term

  pub terms_size : Terms → ℕ
  terms_size none = 0
  terms_size (alt term terms) = term_size term + terms_size terms

-- ---- what the code's values represent

abbrev pub term_of : List Factor → Term
term_of [] = empty
term_of (factor ∷ factors) = put factor (term_of factors)

abbrev pub terms_of : List (List Factor) → Terms
terms_of [] = none
terms_of (term ∷ terms) = alt (term_of term) (terms_of terms)

-- one factor, with what each inner one represents in its place
abbrev pub factor_step : Factor-F Factor → Factor
factor_step (Factor-F.Class c) = class c
factor_step (Factor-F.Group terms) = group (terms_of (map (λ term. term.items) terms.items))
factor_step (Factor-F.Star terms) = star (terms_of (map (λ term. term.items) terms.items))

abbrev pub factor_value : FactorValue → Factor
factor_value = fold-Factor Factor factor_step

abbrev pub term_value : List FactorValue → Term
term_value factors = term_of (map factor_value factors)

abbrev pub terms_value : List (Vec FactorValue) → Terms
terms_value terms = terms_of (map (λ term. map factor_value term.items) terms)
