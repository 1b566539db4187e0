-- Whether a pattern holds a text, as a test that computes. It reads the text once,
-- symbol by symbol.
--
-- Each class of a flat form has a mark, in the order in which the classes stand: it
-- says whether the text so far can end in a symbol of that class. Whether it can
-- end just before a part, `before`, comes from what stands in front of that part.
use Rattle.std.specs.Prelude.{◌↔◌, ℕ, ◌+◌, Bool, true, false, ◌&&◌, ◌||◌, IsTrue, List, [], ◌∷◌}
use Rattle.std.specs.Prelude.{◌++◌}
use Rattle.std.specs.Prelude.{take, drop, replicate, Result, Ok, Err, slice_index_or}
use Rattle.basics.specs.Symbol.{is_text}
use Rattle.pol_pattern.specs.Flat.{holds_symbol, Factor, class, group, star, Term, empty, put}
use Rattle.pol_pattern.specs.Flat.{Terms, none, alt}
use Rattle.pol_pattern.specs.Spelling.{Holds}
use Rattle.pol_pattern.specs.Reading.{reading}
use Rattle.pol_pattern.specs.declared.fault.PatternFault.{PatternFault}

-- how many marks a part has
abbrev mutual
  pub factor_positions : Factor → ℕ
  factor_positions (class c) = 1
  factor_positions (group terms) = terms_positions terms
  factor_positions (star terms) = terms_positions terms

  pub term_positions : Term → ℕ
  term_positions empty = 0
  term_positions (put factor term) = factor_positions factor + term_positions term

  pub terms_positions : Terms → ℕ
  terms_positions none = 0
  terms_positions (alt term terms) = term_positions term + terms_positions terms

-- whether the text so far can end just after the part
abbrev mutual
  pub factor_ends : Factor → Bool → List Bool → Bool
  factor_ends (class c) before marks = slice_index_or marks 0 false
  factor_ends (group terms) before marks = terms_end terms before marks
  factor_ends (star terms) before marks = before || terms_end terms false marks

  pub term_ends : Term → Bool → List Bool → Bool
  term_ends empty before marks = before
  term_ends (put factor term) before marks =
      term_ends term (factor_ends factor before (take (factor_positions factor) marks))
      (drop (factor_positions factor) marks)

  pub terms_end : Terms → Bool → List Bool → Bool
  terms_end none before marks = false
  terms_end (alt term terms) before marks =
      term_ends term before (take (term_positions term) marks)
      || terms_end terms before (drop (term_positions term) marks)

-- the marks after one more symbol; a star may begin again wherever it can end
abbrev mutual
  pub factor_moved : Factor → Bool → ℕ → List Bool → List Bool
  factor_moved (class c) before symbol marks = (before && holds_symbol c symbol) ∷ []
  factor_moved (group terms) before symbol marks = terms_moved terms before symbol marks
  factor_moved (star terms) before symbol marks =
      terms_moved terms (before || terms_end terms false marks) symbol marks

  pub term_moved : Term → Bool → ℕ → List Bool → List Bool
  term_moved empty before symbol marks = []
  term_moved (put factor term) before symbol marks =
      factor_moved factor before symbol (take (factor_positions factor) marks)
      ++ term_moved term (factor_ends factor before (take (factor_positions factor) marks)) symbol
      (drop (factor_positions factor) marks)

  pub terms_moved : Terms → Bool → ℕ → List Bool → List Bool
  terms_moved none before symbol marks = []
  terms_moved (alt term terms) before symbol marks =
      term_moved term before symbol (take (term_positions term) marks)
      ++ terms_moved terms before symbol (drop (term_positions term) marks)

-- whether the terms hold the text so far with the rest after it
abbrev pub ends_after : Terms → Bool → List Bool → List ℕ → Bool
ends_after terms before marks [] = terms_end terms before marks
ends_after terms before marks (symbol ∷ rest) =
    ends_after terms false (terms_moved terms before symbol marks) rest

-- at first only the place before all terms is reached
unfoldable pub matches_terms : Terms → List ℕ → Bool
matches_terms terms text = ends_after terms true (replicate (terms_positions terms) false) text

abbrev pub matches_reading : Result Terms PatternFault → List ℕ → Bool
matches_reading (Ok flat) text = matches_terms flat text
matches_reading (Err fault) text = false

-- whether the pattern that the source spells holds the text
unfoldable pub matches : List ℕ → List ℕ → Bool
matches source text = matches_reading (reading source) text

-- whether a pattern matches a line is whether its set holds it, and a set holds texts alone
pub record MatchLaw : Type 0 where
  pub same : (source line : List ℕ) → IsTrue (matches source line) ↔ Holds source line
  pub texts : (source line : List ℕ) → Holds source line → IsTrue (is_text line)
