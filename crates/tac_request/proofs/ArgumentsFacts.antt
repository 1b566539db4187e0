-- Arguments that lie one after another: one more, and when they are the same.
use native.Mathlib.Numerals.{unary_clauses}
use Rattle.std.proofs.Common.{◌≡◌, ℕ, suc, ◌+◌, ◌≤◌, ◌*◌, ◌<◌, Bool, true, false, eqb, List, [], ◌∷◌, ◌++◌, length, get_or, map, drop, sum, refl, sym, ap, ◌∙◌, arith}
use Rattle.std.specs.Prelude.{IsTrue}
use Rattle.std.specs.List.{concat}
use Rattle.std.proofs.lemmas.Bool.{eqb-true}
use Rattle.std.proofs.lemmas.List.{length-append, length-drop, take_all, take-append-le, drop-append-le}
use Rattle.std.proofs.lemmas.List.Sums.{sum_by-append}
use Rattle.tac_wire.specs.Cut.{cut}
use Rattle.tac_wire.proofs.CutFacts.{cut_laws}
use Rattle.tac_request.specs.Arguments.{same_arguments, same_arguments-Decides}
use Rattle.tac_request.proofs.RequestFacts.{sum-cons}

pub sum-one-more : (lens : List ℕ) (n : ℕ) → sum (lens ++ n ∷ []) ≡ sum lens + n
sum-one-more lens n = omega (arith, sum_by-append (λ x. x) lens (n ∷ []), sum-cons n [])

-- one more field after the others
pub cut-one-more : (lens bytes more : List ℕ) (n : ℕ) → sum lens ≡ length bytes → n ≡ length more → cut (lens ++ n ∷ []) (bytes ++ more) ≡ cut lens bytes ++ more ∷ []
cut-one-more [] [] more n h e = ap (λ (t : List ℕ). t ∷ []) (take_all n more (omega arith))
cut-one-more [] (b ∷ bytes) more n h e = absurd (omega arith)
cut-one-more (len ∷ lens) bytes more n h e =
    let within : len ≤ length bytes = omega (arith, sum-cons len lens) in
    let here = take-append-le len bytes more within in
    let rest = drop-append-le len bytes more within in
    let later = cut-one-more lens (drop len bytes) more n (omega (arith, sum-cons len lens, length-drop len bytes)) e in
    cc

-- what is kept of arguments stays right with one more
pub grown-sum : (lens bytes lens' bytes' more : List ℕ) → sum lens ≡ length bytes → lens' ≡ lens ++ length more ∷ [] → bytes' ≡ bytes ++ more → sum lens' ≡ length bytes'
grown-sum lens bytes lens' bytes' more h l b =
    ap (λ (xs : List ℕ). sum xs) l ∙ omega (arith, sum-one-more lens (length more), length-append bytes more, h) ∙ ap (λ (xs : List ℕ). length xs) (sym b)

pub grown-length : (xs xs' : List ℕ) (more : List ℕ) → xs' ≡ xs ++ more → length xs' ≡ length xs + length more
grown-length xs xs' more e = ap (λ (l : List ℕ). length l) e ∙ length-append xs more

-- bytes add up to no more than so many of the greatest
pub sum-bytes : (lens : List ℕ) → ((i : ℕ) → get_or lens i 0 < 256) → sum lens ≤ 255 * length lens
sum-bytes [] small = omega arith
sum-bytes (len ∷ lens) small =
    let rest = sum-bytes lens (λ i. small (suc i)) in
    simp unary_clauses (omega (arith, sum-cons len lens, small 0, rest))

pub same_lengths : (la ja lb jb : List ℕ) → sum la ≡ length ja → sum lb ≡ length jb → cut la ja ≡ cut lb jb → la ≡ lb
same_lengths la ja lb jb h k e =
    sym (cut_laws.lengths la ja (omega (arith, h))) ∙ ap (λ (fields : List (List ℕ)). map length fields) e ∙ cut_laws.lengths lb jb (omega (arith, k))

pub same_joined : (la ja lb jb : List ℕ) → sum la ≡ length ja → sum lb ≡ length jb → cut la ja ≡ cut lb jb → ja ≡ jb
same_joined la ja lb jb h k e =
    sym (cut_laws.joined la ja h) ∙ ap (λ (fields : List (List ℕ)). concat fields) e ∙ cut_laws.joined lb jb k

pub differ : (a b : List (List ℕ)) → (a ≡ b → ⊥) → false ≡ same_arguments a b
differ a b none = by (same_arguments a b) refl
  where
    by : (t : Bool) → same_arguments a b ≡ t → false ≡ t
    by true e = absurd (none ((same_arguments-Decides a b).0 e))
    by false e = refl

pub agree : (a b : List (List ℕ)) (t : Bool) → (IsTrue t → a ≡ b) → (a ≡ b → IsTrue t) → t ≡ same_arguments a b
agree a b true told back = sym ((same_arguments-Decides a b).1 (told refl))
agree a b false told back = differ a b (λ e. let t = back e in absurd cc)

-- there are none exactly if there are no lengths
pub no_lengths : (lens bytes : List ℕ) → cut lens bytes ≡ [] → lens ≡ []
no_lengths [] bytes e = refl
no_lengths (len ∷ lens) bytes e = absurd cc

pub is_none : (lens : List ℕ) (t : Bool) → t ≡ eqb (length lens) 0 → IsTrue t → lens ≡ []
is_none [] t e told = refl
is_none (len ∷ lens) t e told =
    let none = eqb-true (length (len ∷ lens)) 0 (sym e ∙ told) in
    absurd (omega (arith, none))

pub none_is : (lens : List ℕ) (t : Bool) → t ≡ eqb (length lens) 0 → lens ≡ [] → IsTrue t
none_is [] t e none = e
none_is (len ∷ lens) t e none = absurd cc
