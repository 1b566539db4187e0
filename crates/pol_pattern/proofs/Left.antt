-- What may follow the text so far, by the marks, for a pattern to hold the whole.
use Rattle.std.proofs.Common.{◌≡◌, ◌↔◌, ◌⊎◌, ℕ, Bool, false, ◌&&◌, ◌||◌, List, [], ◌∷◌, length, take, drop, refl, sym, ap, subst, inl, inr, length-append}
use Rattle.std.specs.Prelude.{IsTrue, slice_index_or}
use Rattle.std.proofs.lemmas.Bool.{false≢true, or_cases, or_left, or_right, and_parts, and_from}
use Rattle.std.proofs.lemmas.List.{take_at, drop_at}
use Rattle.pol_pattern.specs.Flat.{holds_symbol, Factor, class, group, star, Term, empty, put, Terms, none, alt}
use Rattle.pol_pattern.specs.Sets.{InFactor, InTerm, InTerms, Joins}
use Rattle.pol_pattern.specs.Matching.{factor_positions, term_positions, terms_positions, factor_ends, term_ends, terms_end, factor_moved, term_moved, terms_moved}
use Rattle.pol_pattern.proofs.Split.{Split, Behind, split-nil, split-cons, joins-nil, joins-cons}

-- ---- what is left to read, where the text so far ends within the part

abbrev mutual
  pub LeftFactor : Factor → List Bool → List ℕ → Type 0
  LeftFactor (class c) marks = λ text. IsTrue (slice_index_or marks 0 false) × (text ≡ [])
  LeftFactor (group terms) marks = LeftTerms terms marks
  LeftFactor (star terms) marks = Split (LeftTerms terms marks) (Joins (InTerms terms))

  pub LeftTerm : Term → List Bool → List ℕ → Type 0
  LeftTerm empty marks = λ text. ⊥
  LeftTerm (put factor term) marks = λ text.
      Split (LeftFactor factor (take (factor_positions factor) marks)) (InTerm term) text ⊎ LeftTerm term (drop (factor_positions factor) marks) text

  pub LeftTerms : Terms → List Bool → List ℕ → Type 0
  LeftTerms none marks = λ text. ⊥
  LeftTerms (alt term terms) marks = λ text.
      LeftTerm term (take (term_positions term) marks) text ⊎ LeftTerms terms (drop (term_positions term) marks) text

-- ---- where the text so far can end: at nothing left

put_ends : (B E E' : Type 0) (F L T : List ℕ → Type 0) (R : Type 0) → E ↔ ((B × F []) ⊎ L []) → E' ↔ ((E × T []) ⊎ R)
    → E' ↔ ((B × Split F T []) ⊎ (Split L T [] ⊎ R))
put_ends B E E' F L T R first others = (
  λ e. elim (others.0 e) [
    | inl w ↦
        elim (first.0 w.0) [
          | inl v ↦ inl (v.0, (split-nil F T).1 (v.1, w.1))
          | inr l ↦ inr (inl ((split-nil L T).1 (l, w.1)))
        ]
    | inr r ↦ inr (inr r)
  ],
  λ h. elim h [
    | inl w ↦
        let s : F [] × T [] = (split-nil F T).0 w.1 in
        others.1 (inl (first.1 (inl (w.0, s.0)), s.1))
    | inr k ↦
        elim k [
          | inl p ↦
              let s : L [] × T [] = (split-nil L T).0 p in
              others.1 (inl (first.1 (inr s.0), s.1))
          | inr r ↦ others.1 (inr r)
        ]
  ],
)

alt_ends : (B : Type 0) (x y : Bool) (T U L R : Type 0) → IsTrue x ↔ ((B × T) ⊎ L) → IsTrue y ↔ ((B × U) ⊎ R)
    → IsTrue (x || y) ↔ ((B × (T ⊎ U)) ⊎ (L ⊎ R))
alt_ends B x y T U L R first others = (
  λ e. elim (or_cases x y e) [
    | inl p ↦ elim (first.0 p) [ inl w ↦ inl (w.0, inl w.1) | inr l ↦ inr (inl l) ]
    | inr q ↦ elim (others.0 q) [ inl w ↦ inl (w.0, inr w.1) | inr r ↦ inr (inr r) ]
  ],
  λ h. elim h [
    | inl w ↦ elim w.1 [ inl p ↦ or_left x y (first.1 (inl (w.0, p))) | inr q ↦ or_right x y (others.1 (inl (w.0, q))) ]
    | inr k ↦ elim k [ inl l ↦ or_left x y (first.1 (inr l)) | inr r ↦ or_right x y (others.1 (inr r)) ]
  ],
)

star_ends : (x y : Bool) (P L : List ℕ → Type 0) → IsTrue y ↔ ((IsTrue false × P []) ⊎ L [])
    → IsTrue (x || y) ↔ ((IsTrue x × Joins P []) ⊎ Split L (Joins P) [])
star_ends x y P L inner = (
  λ e. elim (or_cases x y e) [
    | inl p ↦ inl (p, joins-nil P)
    | inr q ↦
        elim (inner.0 q) [ inl w ↦ absurd (false≢true w.0) | inr l ↦ inr ((split-nil L (Joins P)).1 (l, joins-nil P)) ]
  ],
  λ h. elim h [
    | inl w ↦ or_left x y w.0
    | inr s ↦
        let p : L [] × Joins P [] = (split-nil L (Joins P)).0 s in
        or_right x y (inner.1 (inr p.0))
  ],
)

nil_is_no_cons : (symbol : ℕ) (text : List ℕ) → [] ≡ symbol ∷ text → ⊥
nil_is_no_cons symbol text e = cc

mutual
  pub factor_ends-left : (factor : Factor) (before : Bool) (marks : List Bool)
      → IsTrue (factor_ends factor before marks) ↔ ((IsTrue before × InFactor factor []) ⊎ LeftFactor factor marks [])
  factor_ends-left (class c) before marks = (
    λ h. inr (h, refl),
    λ h. elim h [ inl w ↦ absurd (nil_is_no_cons w.1.0 [] w.1.1) | inr l ↦ l.0 ],
  )
  factor_ends-left (group terms) before marks = terms_end-left terms before marks
  factor_ends-left (star terms) before marks =
      star_ends before (terms_end terms false marks) (InTerms terms) (LeftTerms terms marks) (terms_end-left terms false marks)

  pub term_ends-left : (term : Term) (before : Bool) (marks : List Bool)
      → IsTrue (term_ends term before marks) ↔ ((IsTrue before × InTerm term []) ⊎ LeftTerm term marks [])
  term_ends-left empty before marks = (λ h. inl (h, refl), λ h. elim h [ inl w ↦ w.0 | inr l ↦ absurd l ])
  term_ends-left (put factor term) before marks =
      let front = take (factor_positions factor) marks in
      let back = drop (factor_positions factor) marks in
      put_ends (IsTrue before) (IsTrue (factor_ends factor before front)) (IsTrue (term_ends term (factor_ends factor before front) back))
      (InFactor factor) (LeftFactor factor front) (InTerm term) (LeftTerm term back [])
      (factor_ends-left factor before front) (term_ends-left term (factor_ends factor before front) back)

  pub terms_end-left : (terms : Terms) (before : Bool) (marks : List Bool)
      → IsTrue (terms_end terms before marks) ↔ ((IsTrue before × InTerms terms []) ⊎ LeftTerms terms marks [])
  terms_end-left none before marks = (
    λ h. absurd (false≢true h),
    λ h. elim h [ inl w ↦ absurd w.1 | inr l ↦ absurd l ],
  )
  terms_end-left (alt term terms) before marks =
      let front = take (term_positions term) marks in
      let back = drop (term_positions term) marks in
      alt_ends (IsTrue before) (term_ends term before front) (terms_end terms before back)
      (InTerm term []) (InTerms terms []) (LeftTerm term front []) (LeftTerms terms back [])
      (term_ends-left term before front) (terms_end-left terms before back)

-- ---- one more symbol

mutual
  pub length-factor_moved : (factor : Factor) (before : Bool) (symbol : ℕ) (marks : List Bool)
      → length (factor_moved factor before symbol marks) ≡ factor_positions factor
  length-factor_moved (class c) before symbol marks = refl
  length-factor_moved (group terms) before symbol marks = length-terms_moved terms before symbol marks
  length-factor_moved (star terms) before symbol marks = length-terms_moved terms (before || terms_end terms false marks) symbol marks

  pub length-term_moved : (term : Term) (before : Bool) (symbol : ℕ) (marks : List Bool)
      → length (term_moved term before symbol marks) ≡ term_positions term
  length-term_moved empty before symbol marks = refl
  length-term_moved (put factor term) before symbol marks =
      let front = take (factor_positions factor) marks in
      let back = drop (factor_positions factor) marks in
      rw (length-append, length-factor_moved factor before symbol front, length-term_moved term (factor_ends factor before front) symbol back) refl

  pub length-terms_moved : (terms : Terms) (before : Bool) (symbol : ℕ) (marks : List Bool)
      → length (terms_moved terms before symbol marks) ≡ terms_positions terms
  length-terms_moved none before symbol marks = refl
  length-terms_moved (alt term terms) before symbol marks =
      let front = take (term_positions term) marks in
      let back = drop (term_positions term) marks in
      rw (length-append, length-term_moved term before symbol front, length-terms_moved terms before symbol back) refl

put_moved : (symbol : ℕ) (text : List ℕ) (B E : Type 0) (F L M T : List ℕ → Type 0) (R S : Type 0)
    → E ↔ ((B × F []) ⊎ L [])
    → ((rest : List ℕ) → M rest ↔ ((B × F (symbol ∷ rest)) ⊎ L (symbol ∷ rest)))
    → S ↔ ((E × T (symbol ∷ text)) ⊎ R)
    → (Split M T text ⊎ S) ↔ ((B × Split F T (symbol ∷ text)) ⊎ (Split L T (symbol ∷ text) ⊎ R))
put_moved symbol text B E F L M T R S ends first others = (
  λ h. elim h [
    | inl s ↦
        elim ((first s.0).0 s.3) [
          | inl w ↦ inl (w.0, (split-cons F T symbol text).1 (inr (s.0, s.1, s.2, w.1, s.4)))
          | inr l ↦ inr (inl ((split-cons L T symbol text).1 (inr (s.0, s.1, s.2, l, s.4))))
        ]
    | inr o ↦
        elim (others.0 o) [
          | inl w ↦
              elim (ends.0 w.0) [
                | inl v ↦ inl (v.0, (split-cons F T symbol text).1 (inl (v.1, w.1)))
                | inr l ↦ inr (inl ((split-cons L T symbol text).1 (inl (l, w.1))))
              ]
          | inr r ↦ inr (inr r)
        ]
  ],
  λ h. elim h [
    | inl w ↦
        elim ((split-cons F T symbol text).0 w.1) [
          | inl p ↦ inr (others.1 (inl (ends.1 (inl (w.0, p.0)), p.1)))
          | inr s ↦ inl (s.0, s.1, s.2, (first s.0).1 (inl (w.0, s.3)), s.4)
        ]
    | inr k ↦
        elim k [
          | inl l ↦
              elim ((split-cons L T symbol text).0 l) [
                | inl p ↦ inr (others.1 (inl (ends.1 (inr p.0), p.1)))
                | inr s ↦ inl (s.0, s.1, s.2, (first s.0).1 (inr s.3), s.4)
              ]
          | inr r ↦ inr (others.1 (inr r))
        ]
  ],
)

star_moved : (symbol : ℕ) (text : List ℕ) (x y : Bool) (P L M : List ℕ → Type 0)
    → IsTrue y ↔ ((IsTrue false × P []) ⊎ L [])
    → ((rest : List ℕ) → M rest ↔ ((IsTrue (x || y) × P (symbol ∷ rest)) ⊎ L (symbol ∷ rest)))
    → Split M (Joins P) text ↔ ((IsTrue x × Joins P (symbol ∷ text)) ⊎ Split L (Joins P) (symbol ∷ text))
star_moved symbol text x y P L M ends inner = (
  λ s. elim ((inner s.0).0 s.3) [
    | inl w ↦
        let joined : Joins P (symbol ∷ text) = (joins-cons P symbol text).1 (s.0, s.1, s.2, w.1, s.4) in
        elim (or_cases x y w.0) [
          | inl p ↦ inl (p, joined)
          | inr q ↦
              elim (ends.0 q) [
                | inl v ↦ absurd (false≢true v.0)
                | inr l ↦ inr ((split-cons L (Joins P) symbol text).1 (inl (l, joined)))
              ]
        ]
    | inr l ↦ inr ((split-cons L (Joins P) symbol text).1 (inr (s.0, s.1, s.2, l, s.4)))
  ],
  λ h. elim h [
    | inl w ↦
        let s : Split (Behind symbol P) (Joins P) text = (joins-cons P symbol text).0 w.1 in
        (s.0, s.1, s.2, (inner s.0).1 (inl (or_left x y w.0, s.3)), s.4)
    | inr k ↦
        elim ((split-cons L (Joins P) symbol text).0 k) [
          | inl p ↦
              let s : Split (Behind symbol P) (Joins P) text = (joins-cons P symbol text).0 p.1 in
              (s.0, s.1, s.2, (inner s.0).1 (inl (or_right x y (ends.1 (inr p.0)), s.3)), s.4)
          | inr s ↦ (s.0, s.1, s.2, (inner s.0).1 (inr s.3), s.4)
        ]
  ],
)

alt_moved : (B T U L R M S : Type 0) → M ↔ ((B × T) ⊎ L) → S ↔ ((B × U) ⊎ R) → (M ⊎ S) ↔ ((B × (T ⊎ U)) ⊎ (L ⊎ R))
alt_moved B T U L R M S first others = (
  λ e. elim e [
    | inl p ↦ elim (first.0 p) [ inl w ↦ inl (w.0, inl w.1) | inr l ↦ inr (inl l) ]
    | inr q ↦ elim (others.0 q) [ inl w ↦ inl (w.0, inr w.1) | inr r ↦ inr (inr r) ]
  ],
  λ h. elim h [
    | inl w ↦ elim w.1 [ inl p ↦ inl (first.1 (inl (w.0, p))) | inr q ↦ inr (others.1 (inl (w.0, q))) ]
    | inr k ↦ elim k [ inl l ↦ inl (first.1 (inr l)) | inr r ↦ inr (others.1 (inr r)) ]
  ],
)

class_moved : (before : Bool) (test : ℕ → Bool) (symbol : ℕ) (text : List ℕ) (mark : Bool)
    → (IsTrue (before && test symbol) × (text ≡ []))
    ↔ ((IsTrue before × ((s : ℕ) × (symbol ∷ text ≡ s ∷ []) × IsTrue (test s))) ⊎ (IsTrue mark × (symbol ∷ text ≡ [])))
class_moved before test symbol text mark = (
  λ h.
      let both = and_parts before (test symbol) h.0 in
      inl (both.0, (symbol, ap (λ (t : List ℕ). symbol ∷ t) h.1, both.1)),
  λ h. elim h [
    | inl w ↦
        let e : symbol ∷ text ≡ w.1.0 ∷ [] = w.1.1 in
        let same : w.1.0 ≡ symbol = cc in
        (and_from before (test symbol) w.0 (subst (λ (s : ℕ). IsTrue (test s)) same w.1.2), cc)
    | inr l ↦ absurd (nil_is_no_cons symbol text (sym l.1))
  ],
)

mutual
  pub factor_moved-left : (factor : Factor) (before : Bool) (symbol : ℕ) (marks : List Bool) (text : List ℕ)
      → LeftFactor factor (factor_moved factor before symbol marks) text
      ↔ ((IsTrue before × InFactor factor (symbol ∷ text)) ⊎ LeftFactor factor marks (symbol ∷ text))
  factor_moved-left (class c) before symbol marks text = class_moved before (holds_symbol c) symbol text (slice_index_or marks 0 false)
  factor_moved-left (group terms) before symbol marks text = terms_moved-left terms before symbol marks text
  factor_moved-left (star terms) before symbol marks text =
      let again = before || terms_end terms false marks in
      star_moved symbol text before (terms_end terms false marks) (InTerms terms) (LeftTerms terms marks) (LeftTerms terms (terms_moved terms again symbol marks))
      (terms_end-left terms false marks) (λ rest. terms_moved-left terms again symbol marks rest)

  pub term_moved-left : (term : Term) (before : Bool) (symbol : ℕ) (marks : List Bool) (text : List ℕ)
      → LeftTerm term (term_moved term before symbol marks) text
      ↔ ((IsTrue before × InTerm term (symbol ∷ text)) ⊎ LeftTerm term marks (symbol ∷ text))
  term_moved-left empty before symbol marks text = (
    λ h. absurd h,
    λ h. elim h [ inl w ↦ absurd (nil_is_no_cons symbol text (sym w.1)) | inr l ↦ absurd l ],
  )
  term_moved-left (put factor term) before symbol marks text =
      let n = factor_positions factor in
      let front = take n marks in
      let back = drop n marks in
      let after = factor_ends factor before front in
      let first = factor_moved factor before symbol front in
      let others = term_moved term after symbol back in
      let wide : length first ≡ n = length-factor_moved factor before symbol front in
      rw (take_at first others n wide, drop_at first others n wide)
      (put_moved symbol text (IsTrue before) (IsTrue after) (InFactor factor) (LeftFactor factor front) (LeftFactor factor first) (InTerm term)
      (LeftTerm term back (symbol ∷ text)) (LeftTerm term others text) (factor_ends-left factor before front)
      (λ rest. factor_moved-left factor before symbol front rest) (term_moved-left term after symbol back text))

  pub terms_moved-left : (terms : Terms) (before : Bool) (symbol : ℕ) (marks : List Bool) (text : List ℕ)
      → LeftTerms terms (terms_moved terms before symbol marks) text
      ↔ ((IsTrue before × InTerms terms (symbol ∷ text)) ⊎ LeftTerms terms marks (symbol ∷ text))
  terms_moved-left none before symbol marks text = (
    λ h. absurd h,
    λ h. elim h [ inl w ↦ absurd w.1 | inr l ↦ absurd l ],
  )
  terms_moved-left (alt term terms) before symbol marks text =
      let n = term_positions term in
      let front = take n marks in
      let back = drop n marks in
      let first = term_moved term before symbol front in
      let others = terms_moved terms before symbol back in
      let wide : length first ≡ n = length-term_moved term before symbol front in
      rw (take_at first others n wide, drop_at first others n wide)
      (alt_moved (IsTrue before) (InTerm term (symbol ∷ text)) (InTerms terms (symbol ∷ text)) (LeftTerm term front (symbol ∷ text)) (LeftTerms terms back (symbol ∷ text))
      (LeftTerm term first text) (LeftTerms terms others text)
      (term_moved-left term before symbol front text) (terms_moved-left terms before symbol back text))
