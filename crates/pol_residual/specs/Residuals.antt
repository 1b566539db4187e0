-- The residuals of a list of entries, and how many different ones there are. An entry is a pattern,
-- by its source; its residuals are those of the pattern (Derivative).
use Rattle.std.specs.Prelude.{◌≡◌, ◌⊎◌, ◌↔◌, ◌<◌, ◌≤◌, ℕ, IsTrue, List, [], ◌∷◌, ◌++◌, length, All}
use Rattle.std.specs.Prelude.{AllPairs, Any}
use Rattle.basics.specs.Symbol.{is_text}
use Rattle.pol_pattern.specs.Flat.{class, star, Term, empty, put, Terms, none, alt}
use Rattle.pol_pattern.specs.Spelling.{any_symbol, Spells, Holds}
use Rattle.pol_residual.specs.Derivative.{Residual}

-- a term of an entry's residual by a text
abbrev pub InResidual : List ℕ → List ℕ → Term → Type 0
InResidual source text term = (flat : Terms) × Spells source flat × Residual flat text term

-- the term `.*`, which holds every text
abbrev pub any_text : Term
any_text = put (star (alt (put (class any_symbol) empty) none)) empty

-- the entry holds every text that goes on with this one, since its residual has the term `.*`. So
-- the first match of such a text is the entry or one before it
abbrev pub IsSure : List ℕ → List ℕ → Type 0
IsSure source text = InResidual source text any_text

-- the entry has the same residual by the one text as by the other
abbrev pub SameTerms : List ℕ → List ℕ → List ℕ → Type 0
SameTerms source text other =
    (term : Term) → InResidual source text term ↔ InResidual source other term

-- each entry before the first that is sure by both has the same residual by the one text as by the
-- other. Other terms of that one decide nothing, nor does what comes after it
abbrev pub SameResiduals : List (List ℕ) → List ℕ → List ℕ → Type 0
SameResiduals [] text other = Unit {0}
SameResiduals (source ∷ rest) text other = (IsSure source text × IsSure source other)
    ⊎ (SameTerms source text other × SameResiduals rest text other)

-- texts of which no two have the same residuals
pub record AreDifferent (entries texts : List (List ℕ)) : Type 0 where
  pub all_texts : All (λ text. IsTrue (is_text text)) texts
  pub different : AllPairs (λ text other. ¬ (SameResiduals entries text other)) texts

-- there are this many residuals: so many different texts, and every text has the residuals of one
-- of them
pub record IsResidualCount (entries : List (List ℕ)) (count : ℕ) : Type 0 where
  pub texts : List (List ℕ)
  pub many : length texts ≡ count
  pub different : AreDifferent entries texts
  pub complete : (text : List ℕ) → IsTrue (is_text text) → Any (SameResiduals entries text) texts

-- there are more residuals than this
pub record HasMoreResiduals (entries : List (List ℕ)) (limit : ℕ) : Type 0 where
  pub texts : List (List ℕ)
  pub many : limit < length texts
  pub different : AreDifferent entries texts

-- it can't be both: at most so many, and more
abbrev pub ExcludesLaw : Type 0
ExcludesLaw =
    (entries : List (List ℕ)) (count limit : ℕ) → IsResidualCount entries count → count ≤ limit
    → ¬ (HasMoreResiduals entries limit)

-- a sure entry holds every text that goes on, and stays sure
abbrev pub SureLaw : Type 0
SureLaw =
    (source text rest : List ℕ) → IsTrue (is_text rest) → IsSure source text
    → Holds source (text ++ rest) × IsSure source (text ++ rest)
