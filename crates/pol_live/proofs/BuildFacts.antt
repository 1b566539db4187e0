-- The subjects of a policy that aren't large, and the first that is.
use Rattle.std.proofs.Common.{◌≡◌, ℕ, zero, suc, ◌<◌, ◌≤◌, List, [], ◌∷◌, length, take, Some, refl, sym, ap, subst, inl, inr, arith, get_or, slice_get}
use Rattle.pol_text.specs.declared.subject.Subject.{Subject}
use Rattle.pol_text.specs.Policy.{id_of}
use Rattle.pol_meaning.specs.Sizes.{IsLarge, AreSmall, IsFirstLarge}

module _ (policy : List Subject) where
  pub more_small : (subjects : List Subject) (i : ℕ) (subject : Subject) → i < length subjects → get_or subjects i subject ≡ subject
      → AreSmall policy (take i subjects) → ¬ (IsLarge policy subject) → AreSmall policy (take (suc i) subjects)
  more_small [] i subject lt at small here = absurd (omega arith)
  more_small (s ∷ rest) zero subject lt at small here = (let P : Subject → Type 0 = λ s. ¬ (IsLarge policy s) in subst P (sym at) here, tt)
  more_small (s ∷ rest) (suc i) subject lt at small here = (small.0, more_small rest i subject (omega arith) at small.1 here)

  -- after small ones it is the first that is large
  pub first_large : (subjects : List Subject) (i : ℕ) (subject : Subject) → i < length subjects → get_or subjects i subject ≡ subject
      → AreSmall policy (take i subjects) → IsLarge policy subject → IsFirstLarge policy subjects (id_of subject)
  first_large [] i subject lt at small here = absurd (omega arith)
  first_large (s ∷ rest) zero subject lt at small here = inl (let P : Subject → Type 0 = λ s. IsLarge policy s in subst P (sym at) here, ap id_of (sym at))
  first_large (s ∷ rest) (suc i) subject lt at small here = inr (small.0, first_large rest i subject (omega arith) at small.1 here)

  -- none of the first ones is
  pub not_before : (subjects : List Subject) (i k : ℕ) (subject : Subject) → AreSmall policy (take i subjects) → slice_get subjects k ≡ Some subject → IsLarge policy subject → i ≤ k
  not_before [] i k subject small at here = absurd cc
  not_before (s ∷ rest) zero k subject small at here = omega arith
  not_before (s ∷ rest) (suc i) zero subject small at here = let same : s ≡ subject = cc in absurd (small.0 (let P : Subject → Type 0 = λ s. IsLarge policy s in subst P (sym same) here))
  not_before (s ∷ rest) (suc i) (suc k) subject small at here = let later = not_before rest i k subject small.1 at here in omega arith

-- the subject at a place within
pub subject_within : (policy : List Subject) (i : ℕ) → i < length policy → (subject : Subject) × (slice_get policy i ≡ Some subject)
subject_within [] i lt = absurd (omega arith)
subject_within (s ∷ rest) zero lt = (s, refl)
subject_within (s ∷ rest) (suc i) lt = subject_within rest i (omega arith)
