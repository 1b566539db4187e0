-- Which symbols are alike: those that no class of symbols in the flat forms of entries tells apart.
-- And how many classes of alike symbols there are.
use Rattle.std.specs.Prelude.{◌≡◌, ℕ, IsTrue, List, length, All, AllPairs, Any}
use Rattle.basics.specs.Symbol.{is_symbol}
use Rattle.pol_pattern.specs.Flat.{Class, holds_symbol, Factor, class, group, star, Term, empty}
use Rattle.pol_pattern.specs.Flat.{put}
use Rattle.pol_pattern.specs.Flat.{Terms, none, alt}
use Rattle.pol_pattern.specs.Spelling.{Spells}

-- the fact holds of each class of symbols in a part
abbrev mutual
  pub AllInFactor : (Class → Type 0) → Factor → Type 0
  AllInFactor fact (class c) = fact c
  AllInFactor fact (group terms) = AllInTerms fact terms
  AllInFactor fact (star terms) = AllInTerms fact terms

  pub AllInTerm : (Class → Type 0) → Term → Type 0
  AllInTerm fact empty = Unit {0}
  AllInTerm fact (put factor term) = AllInFactor fact factor × AllInTerm fact term

  pub AllInTerms : (Class → Type 0) → Terms → Type 0
  AllInTerms fact none = Unit {0}
  AllInTerms fact (alt term terms) = AllInTerm fact term × AllInTerms fact terms

-- a class holds both symbols, or neither
abbrev pub HoldsAlike : ℕ → ℕ → Class → Type 0
HoldsAlike a b c = holds_symbol c a ≡ holds_symbol c b

-- symbols are alike if each class in the flat forms of the entries holds both, or neither
abbrev pub AreAlike : List (List ℕ) → ℕ → ℕ → Type 0
AreAlike entries a b =
    All (λ source. (flat : Terms) → Spells source flat → AllInTerms (HoldsAlike a b) flat) entries

-- there are this many classes of alike symbols: so many symbols of which no two are alike, and
-- every symbol is alike to one of them
pub record IsClassCount (entries : List (List ℕ)) (count : ℕ) : Type 0 where
  pub symbols : List ℕ
  pub many : length symbols ≡ count
  pub all_symbols : All (λ symbol. IsTrue (is_symbol symbol)) symbols
  pub different : AllPairs (λ a b. ¬ (AreAlike entries a b)) symbols
  pub complete : (symbol : ℕ) → IsTrue (is_symbol symbol) → Any (AreAlike entries symbol) symbols
