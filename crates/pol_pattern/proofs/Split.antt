-- Texts that split into a front and a back.
use Rattle.std.proofs.Common.{◌≡◌, ◌↔◌, ◌⊎◌, ℕ, List, [], ◌∷◌, ◌++◌, refl, sym, ap, ◌∙◌, subst, inl, inr}
use Rattle.std.specs.List.{AllByRecursion, concat}
use Rattle.pol_pattern.specs.Sets.{Joins}

abbrev pub Split : (List ℕ → Type 0) → (List ℕ → Type 0) → List ℕ → Type 0
Split A B text = (front back : List ℕ) × (text ≡ front ++ back) × A front × B back

-- ---- the empty text

split-nil_at : (A B : List ℕ → Type 0) (front back : List ℕ) → [] ≡ front ++ back → A front → B back → A [] × B []
split-nil_at A B [] back e a b = (a, subst B (sym e) b)
split-nil_at A B (first ∷ front) back e a b = absurd cc

pub split-nil : (A B : List ℕ → Type 0) → Split A B [] ↔ (A [] × B [])
split-nil A B = (λ s. split-nil_at A B s.0 s.1 s.2 s.3 s.4, λ h. ([], [], refl, h.0, h.1))

-- ---- a text with a first symbol: the front is empty, or begins with it

abbrev pub Behind : ℕ → (List ℕ → Type 0) → List ℕ → Type 0
Behind symbol A text = A (symbol ∷ text)

split-cons_at : (A B : List ℕ → Type 0) (symbol : ℕ) (text front back : List ℕ) → symbol ∷ text ≡ front ++ back → A front → B back
    → (A [] × B (symbol ∷ text)) ⊎ Split (Behind symbol A) B text
split-cons_at A B symbol text [] back e a b = inl (a, subst B (sym e) b)
split-cons_at A B symbol text (first ∷ front) back e a b =
    let same : first ≡ symbol = cc in
    inr (front, back, cc, subst (λ (n : ℕ). A (n ∷ front)) same a, b)

pub split-cons : (A B : List ℕ → Type 0) (symbol : ℕ) (text : List ℕ)
    → Split A B (symbol ∷ text) ↔ ((A [] × B (symbol ∷ text)) ⊎ Split (Behind symbol A) B text)
split-cons A B symbol text = (
  λ s. split-cons_at A B symbol text s.0 s.1 s.2 s.3 s.4,
  λ h. elim h [
    | inl w ↦ ([], symbol ∷ text, refl, w.0, w.1)
    | inr s ↦ (symbol ∷ s.0, s.1, ap (λ (t : List ℕ). symbol ∷ t) s.2, s.3, s.4)
  ],
)

-- ---- joins

pub joins-nil : (P : List ℕ → Type 0) → Joins P []
joins-nil P = ([], tt, refl)

joins_first : (P : List ℕ → Type 0) (symbol : ℕ) (text : List ℕ) (parts : List (List ℕ)) → AllByRecursion P parts → symbol ∷ text ≡ concat parts
    → Split (Behind symbol P) (Joins P) text
joins_first P symbol text [] all e = absurd cc
joins_first P symbol text ([] ∷ parts) all e = joins_first P symbol text parts all.1 e
joins_first P symbol text ((first ∷ part) ∷ parts) all e =
    let same : first ≡ symbol = cc in
    (part, concat parts, cc, subst (λ (n : ℕ). P (n ∷ part)) same all.0, (parts, all.1, refl))

-- the first part that isn't empty begins with the first symbol
pub joins-cons : (P : List ℕ → Type 0) (symbol : ℕ) (text : List ℕ) → Joins P (symbol ∷ text) ↔ Split (Behind symbol P) (Joins P) text
joins-cons P symbol text = (
  λ j. joins_first P symbol text j.0 j.1 j.2,
  λ s. ((symbol ∷ s.0) ∷ s.4.0, (s.3, s.4.1), ap (λ (t : List ℕ). symbol ∷ t) (s.2 ∙ ap (λ (t : List ℕ). s.0 ++ t) s.4.2)),
)
