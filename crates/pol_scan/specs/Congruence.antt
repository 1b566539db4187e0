-- Right congruences of words, and how many classes one has.
use Rattle.std.specs.Prelude.{◌≡◌, ◌↔◌, ◌<◌, ℕ, List, length, refl, All, AllPairs, Any}
use Rattle.pol_scan.specs.Words.{IsWord, longer}

-- an equivalence of the words over so many columns that stays when one more column follows both
pub record Congruence : Type 1 where
  pub width : ℕ
  pub same : List ℕ → List ℕ → Type 0
  pub reflexive : (u : List ℕ) → same u u
  pub symmetric : (u v : List ℕ) → same u v → same v u
  pub transitive : (u v w : List ℕ) → same u v → same v w → same u w
  pub followed : (u v : List ℕ) (column : ℕ) → column < width → same u v
      → same (longer u column) (longer v column)

-- words of which no two are the same
pub record AreDifferent (congruence : Congruence) (words : List (List ℕ)) : Type 0 where
  pub all_words : All (IsWord congruence.width) words
  pub different : AllPairs (λ u v. ¬ (congruence.same u v)) words

-- there are this many classes: so many different words, and every word is the same as one of them
pub record HasIndex (congruence : Congruence) (index : ℕ) : Type 0 where
  pub words : List (List ℕ)
  pub many : length words ≡ index
  pub different : AreDifferent congruence words
  pub complete : (word : List ℕ) → IsWord congruence.width word → Any (congruence.same word) words

-- there are more classes than this
pub record HasIndexAbove (congruence : Congruence) (limit : ℕ) : Type 0 where
  pub words : List (List ℕ)
  pub many : limit < length words
  pub different : AreDifferent congruence words

-- the classes can be numbered below this: so there are no more
pub record HasNumbersBelow (congruence : Congruence) (bound : ℕ) : Type 0 where
  pub number : (word : List ℕ) → IsWord congruence.width word → ℕ
  pub below : (word : List ℕ) (is_word : IsWord congruence.width word) → number word is_word < bound
  pub tells : (u v : List ℕ) (p : IsWord congruence.width u) (q : IsWord congruence.width v)
      → number u p ≡ number v q → congruence.same u v

-- what was known stays known: of as many columns the same words are the same, and what led to a
-- state still does
pub record Keeps {S : Type 0} (old : Congruence) (led : List ℕ → S
    → Type 0) (new : Congruence) (leads : List ℕ → S → Type 0) : Type 0 where
  pub columns : new.width ≡ old.width
  pub alike : (u v : List ℕ) → old.same u v ↔ new.same u v
  pub known : (word : List ℕ) (state : S) → led word state → leads word state

-- as of a machine that learns nothing
pub keeps_itself : {S : Type 0} (congruence : Congruence) (leads : List ℕ → S → Type 0)
    → Keeps congruence leads congruence leads
keeps_itself congruence leads =
    record { columns = refl; alike = λ u v. (λ h. h, λ h. h); known = λ word state h. h }
