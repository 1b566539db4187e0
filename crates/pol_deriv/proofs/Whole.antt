-- The classes of patterns are whole.
use Rattle.std.proofs.Common.{◌≡◌, ◌↔◌, ◌⊎◌, inl, inr, refl, ◌+◌, ◌<◌, ◌≤◌, ◌-◌, ℕ, IsTrue, sym, ap, ◌∙◌, zero, suc, Bool, true, false, subst, List, [], ◌∷◌, Option, Some, None, length, get_or, arith}
use Rattle.std.specs.Global.{Vec}
use Rattle.std.proofs.lemmas.Bool.{and_parts, and_from, le-leb, false≢true}
use Rattle.basics.specs.Symbol.{is_symbol}
use Rattle.pol_pattern.specs.Flat.{Class, holds_symbol, class, group, star, Term, empty, put, Terms, join_term, factor_value, term_value, terms_value}
use Rattle.pol_pattern.specs.declared.flat.Factor.{Factor as FactorValue}
use Rattle.pol_pattern.specs.Spelling.{Alternatives, single, or, Sequence, nothing, next, Repetition, once, repeated, Atom, literal, dot, bracket, parentheses, escaped, Item, Suffix, asterisk, plus, question, exactly, between, exact_counts, range_counts, counted, bracket_class, alternatives_of, optional, copies, repeat_factors, suffix_repeat, alternatives_terms, sequence_factors, repetition_factors, atom_factors, any_symbol, Spells}
use Rattle.pol_pattern.proofs.Classes.{length-class_where, class_by_symbols}
use Rattle.pol_deriv.specs.Classes.{IsWhole, IsWholeFactor, IsWholeTerm, AreWholeTerms}
use Rattle.pol_deriv.proofs.AnyText.{any_holds_symbol}

-- ---- what is spelled

joined_whole : (front back : Term) → IsWholeTerm front → IsWholeTerm back → IsWholeTerm (join_term front back)
joined_whole empty back p q = q
joined_whole (put factor front) back p q = (p.0, joined_whole front back p.1 q)

copies_whole : (count : ℕ) (term : Term) → IsWholeTerm term → IsWholeTerm (copies count term)
unfolding copies
copies_whole zero term whole = tt
copies_whole (suc count) term whole = joined_whole term (copies count term) whole (copies_whole count term whole)

alternatives_whole_of : (term : Term) → IsWholeTerm term → AreWholeTerms (alternatives_of term)
alternatives_whole_of empty whole = (whole, tt)
alternatives_whole_of (put (class c) rest) whole = (whole, tt)
alternatives_whole_of (put (star terms) rest) whole = (whole, tt)
alternatives_whole_of (put (group terms) empty) whole = whole.0
alternatives_whole_of (put (group terms) (put factor rest)) whole = (whole, tt)

star_whole : (term : Term) → IsWholeTerm term → IsWholeTerm (put (star (alternatives_of term)) empty)
star_whole term whole = (alternatives_whole_of term whole, tt)

optional_whole : (term : Term) → IsWholeTerm term → IsWholeTerm (optional term)
optional_whole term whole = ((whole, (tt, tt)), tt)

counted_whole : (counts : Option (ℕ × ℕ)) (term : Term) → IsWholeTerm term → IsWholeTerm (repeat_factors (counted counts) term)
counted_whole None term whole = joined_whole (copies 0 term) _ (copies_whole 0 term whole) (copies_whole (0 - 0) (optional term) (optional_whole term whole))
counted_whole (Some (low, high)) term whole =
    joined_whole (copies low term) _ (copies_whole low term whole) (copies_whole (high - low) (optional term) (optional_whole term whole))

repeat_whole : (suffix : Suffix) (term : Term) → IsWholeTerm term → IsWholeTerm (repeat_factors (suffix_repeat suffix) term)
repeat_whole asterisk term whole = star_whole term whole
repeat_whole plus term whole = joined_whole term _ whole (star_whole term whole)
repeat_whole question term whole = optional_whole term whole
repeat_whole (exactly count) term whole = counted_whole (exact_counts count) term whole
repeat_whole (between low high) term whole = counted_whole (range_counts low high) term whole

bracket_whole : (negated : Bool) (items : List Item) → IsWhole (bracket_class negated items)
bracket_whole true items = length-class_where _
bracket_whole false items = length-class_where _

mutual
  alternatives_whole : (tree : Alternatives) → AreWholeTerms (alternatives_terms tree)
  alternatives_whole (single sequence) = (sequence_whole sequence, tt)
  alternatives_whole (or sequence others) = (sequence_whole sequence, alternatives_whole others)

  sequence_whole : (tree : Sequence) → IsWholeTerm (sequence_factors tree)
  sequence_whole nothing = tt
  sequence_whole (next first others) = joined_whole (repetition_factors first) (sequence_factors others) (repetition_whole first) (sequence_whole others)

  repetition_whole : (tree : Repetition) → IsWholeTerm (repetition_factors tree)
  repetition_whole (once atom) = atom_whole atom
  repetition_whole (repeated inner suffix) = repeat_whole suffix (repetition_factors inner) (repetition_whole inner)

  atom_whole : (tree : Atom) → IsWholeTerm (atom_factors tree)
  atom_whole (literal symbol) = (length-class_where _, tt)
  atom_whole dot = (length-class_where _, tt)
  atom_whole (bracket negated first others) = (bracket_whole negated (first ∷ others), tt)
  atom_whole (parentheses inner) = (alternatives_whole inner, tt)
  atom_whole (escaped symbol) = (length-class_where _, tt)

pub spelled_whole : (source : List ℕ) (flat : Terms) → Spells source flat → AreWholeTerms flat
spelled_whole source flat spells = subst AreWholeTerms spells.3 (alternatives_whole spells.0)

-- ---- one item of a list

pub whole-factor : (factors : List FactorValue) (i : ℕ) (factor : FactorValue) → i < length factors → factor ≡ get_or factors i factor → IsWholeTerm (term_value factors)
    → IsWholeFactor (factor_value factor)
whole-factor [] i factor lt e whole = absurd (omega arith)
whole-factor (first ∷ factors) zero factor lt e whole = rw e whole.0
whole-factor (first ∷ factors) (suc i) factor lt e whole = whole-factor factors i factor (omega arith) e whole.1

pub whole-term : (terms : List (Vec FactorValue)) (i : ℕ) (term : Vec FactorValue) → i < length terms → term ≡ get_or terms i term → AreWholeTerms (terms_value terms)
    → IsWholeTerm (term_value term.items)
whole-term [] i term lt e whole = absurd (omega arith)
whole-term (first ∷ terms) zero term lt e whole = rw e whole.0
whole-term (first ∷ terms) (suc i) term lt e whole = whole-term terms i term (omega arith) e whole.1

-- ---- the class of all symbols

module _ (c : Class) where
  -- a whole class that holds each symbol is that of all
  pub held_all : IsWhole c → ((k : ℕ) → 32 ≤ k → k < 127 → IsTrue (holds_symbol c k)) → IsTrue true ↔ (c ≡ any_symbol)
  unfolding holds_symbol
  held_all whole each = (
    λ _. class_by_symbols c (λ byte. true) whole (λ k lt.
        let held = (and_parts (is_symbol (32 + k)) _ (each (32 + k) (omega arith) (omega arith))).1 in
        subst (λ (n : ℕ). get_or c n false ≡ true) (omega arith) held),
    λ _. refl,
  )

  -- one that lacks a symbol isn't
  pub not_all : (k : ℕ) → 32 ≤ k → k ≤ 126 → holds_symbol c k ≡ false → IsTrue false ↔ (c ≡ any_symbol)
  not_all k above below not =
      let symbol : IsTrue (is_symbol k) = and_from _ _ (le-leb 32 k above) (le-leb k 126 below) in (
        λ h. absurd (false≢true h),
        λ all. sym not ∙ ap (λ (d : Class). holds_symbol d k) all ∙ any_holds_symbol k symbol,
      )

  pub one_more : (symbol : ℕ) → ((k : ℕ) → 32 ≤ k → k < symbol → IsTrue (holds_symbol c k)) → IsTrue (holds_symbol c symbol)
      → (k : ℕ) → 32 ≤ k → k < symbol + 1 → IsTrue (holds_symbol c k)
  one_more symbol before own k above below =
      elim (split k below) [
        | inl lt ↦ before k above lt
        | inr same ↦ subst (λ (n : ℕ). IsTrue (holds_symbol c n)) (sym same) own
      ]
    where
      split : (k : ℕ) → k < symbol + 1 → (k < symbol) ⊎ (k ≡ symbol)
      split k below = grind arith
