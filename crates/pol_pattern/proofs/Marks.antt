-- The test by marks is true exactly of the texts that the terms hold.
use Rattle.std.proofs.Common.{◌≡◌, ◌↔◌, ◌⊎◌, ℕ, zero, suc, ◌≤◌, Bool, true, false, List, [], ◌∷◌, take, drop, replicate, refl, inl, inr, arith}
use Rattle.std.specs.Prelude.{IsTrue}
use Rattle.std.specs.List.{list_any}
use Rattle.std.proofs.lemmas.Bool.{false≢true, both_ways, false_from_ne_true, or_cases, or_left, or_right}
use Rattle.pol_pattern.specs.Flat.{Factor, class, group, star, Term, empty, put, Terms, none, alt, factor_size, term_size, terms_size}
use Rattle.pol_pattern.specs.Sets.{InTerms}
use Rattle.pol_pattern.specs.Matching.{factor_positions, term_positions, terms_positions, terms_moved, ends_after, matches_terms}
use Rattle.pol_pattern.proofs.Left.{LeftFactor, LeftTerm, LeftTerms, terms_end-left, terms_moved-left}

-- ---- with no mark set nothing is left to read; p is true of a mark that is set

any-take : (p : Bool → Bool) (n : ℕ) (marks : List Bool) → list_any p (take n marks) ≡ true → list_any p marks ≡ true
any-take p zero marks h = absurd (false≢true h)
any-take p (suc n) [] h = h
any-take p (suc n) (mark ∷ marks) h =
    elim (or_cases (p mark) (list_any p (take n marks)) h) [
      | inl here ↦ or_left (p mark) (list_any p marks) here
      | inr there ↦ or_right (p mark) (list_any p marks) (any-take p n marks there)
    ]

any-drop : (p : Bool → Bool) (n : ℕ) (marks : List Bool) → list_any p (drop n marks) ≡ true → list_any p marks ≡ true
any-drop p zero marks h = h
any-drop p (suc n) [] h = h
any-drop p (suc n) (mark ∷ marks) h = or_right (p mark) (list_any p marks) (any-drop p n marks h)

any-replicate : (n : ℕ) → list_any (λ (mark : Bool). mark) (replicate n false) ≡ false
any-replicate zero = refl
any-replicate (suc n) = any-replicate n

mutual
  factor_is_marked : (p : Bool → Bool) → p true ≡ true → (factor : Factor) (marks : List Bool) (text : List ℕ)
      → LeftFactor factor marks text → list_any p marks ≡ true
  factor_is_marked p set (class c) [] text l = absurd (false≢true l.0)
  factor_is_marked p set (class c) (mark ∷ marks) text l = or_left (p mark) (list_any p marks) (rw l.0 set)
  factor_is_marked p set (group terms) marks text l = terms_are_marked p set terms marks text l
  factor_is_marked p set (star terms) marks text l = terms_are_marked p set terms marks l.0 l.3

  term_is_marked : (p : Bool → Bool) → p true ≡ true → (term : Term) (marks : List Bool) (text : List ℕ)
      → LeftTerm term marks text → list_any p marks ≡ true
  term_is_marked p set empty marks text l = absurd l
  term_is_marked p set (put factor term) marks text l =
      elim l [
        | inl s ↦ any-take p (factor_positions factor) marks (factor_is_marked p set factor (take (factor_positions factor) marks) s.0 s.3)
        | inr r ↦ any-drop p (factor_positions factor) marks (term_is_marked p set term (drop (factor_positions factor) marks) text r)
      ]

  terms_are_marked : (p : Bool → Bool) → p true ≡ true → (terms : Terms) (marks : List Bool) (text : List ℕ)
      → LeftTerms terms marks text → list_any p marks ≡ true
  terms_are_marked p set none marks text l = absurd l
  terms_are_marked p set (alt term terms) marks text l =
      elim l [
        | inl h ↦ any-take p (term_positions term) marks (term_is_marked p set term (take (term_positions term) marks) text h)
        | inr r ↦ any-drop p (term_positions term) marks (terms_are_marked p set terms (drop (term_positions term) marks) text r)
      ]

-- ---- the whole text

pub ends_after-holds : (terms : Terms) (before : Bool) (marks : List Bool) (text : List ℕ)
    → IsTrue (ends_after terms before marks text) ↔ ((IsTrue before × InTerms terms text) ⊎ LeftTerms terms marks text)
ends_after-holds terms before marks [] = terms_end-left terms before marks
ends_after-holds terms before marks (symbol ∷ rest) =
    let moved = terms_moved terms before symbol marks in
    let others = ends_after-holds terms false moved rest in
    let one = terms_moved-left terms before symbol marks rest in (
      λ h. elim (others.0 h) [ inl w ↦ absurd (false≢true w.0) | inr l ↦ one.0 l ],
      λ h. others.1 (inr (one.1 h)),
    )

-- so that the rest of the text needs no look
pub ends_after-unmarked : (p : Bool → Bool) → p true ≡ true → (terms : Terms) (marks : List Bool) (text : List ℕ) → list_any p marks ≡ false
    → ends_after terms false marks text ≡ false
ends_after-unmarked p set terms marks text no_mark =
    false_from_ne_true (ends_after terms false marks text)
    (λ h. elim ((ends_after-holds terms false marks text).0 h) [
      | inl w ↦ false≢true w.0
      | inr l ↦ both_ways (list_any p marks) no_mark (terms_are_marked p set terms marks text l)
    ])

pub matches_holds : (terms : Terms) (text : List ℕ) → IsTrue (matches_terms terms text) ↔ InTerms terms text
unfolding matches_terms
matches_holds terms text =
    let n = terms_positions terms in
    let law = ends_after-holds terms true (replicate n false) text in (
      λ h. elim (law.0 h) [
        | inl w ↦ w.1
        | inr l ↦ absurd (both_ways (list_any (λ (mark : Bool). mark) (replicate n false)) (any-replicate n)
            (terms_are_marked (λ (mark : Bool). mark) refl terms (replicate n false) text l))
      ],
      λ h. law.1 (inl (refl, h)),
    )

-- ---- a part has no more marks than its size

mutual
  pub factor_positions-le_size : (factor : Factor) → factor_positions factor ≤ factor_size factor
  factor_positions-le_size (class c) = omega arith
  factor_positions-le_size (group terms) = omega (arith, terms_positions-le_size terms)
  factor_positions-le_size (star terms) = omega (arith, terms_positions-le_size terms)

  pub term_positions-le_size : (term : Term) → term_positions term ≤ term_size term
  term_positions-le_size empty = omega arith
  term_positions-le_size (put factor term) = omega (arith, factor_positions-le_size factor, term_positions-le_size term)

  pub terms_positions-le_size : (terms : Terms) → terms_positions terms ≤ terms_size terms
  terms_positions-le_size none = omega arith
  terms_positions-le_size (alt term terms) = omega (arith, term_positions-le_size term, terms_positions-le_size terms)
