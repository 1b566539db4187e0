-- A set holds texts alone: a byte that is no symbol is in no class.
use Rattle.std.proofs.Common.{◌≡◌, ℕ, true, List, [], ◌∷◌, inl, inr, refl, IsTrue}
use Rattle.std.specs.List.{AllByRecursion, concat}
use Rattle.std.proofs.lemmas.Bool.{and_parts}
use Rattle.basics.specs.Symbol.{is_symbol, is_text}
use Rattle.pol_pattern.specs.Flat.{Class, holds_symbol, Factor, class, group, star, Term, empty, put, Terms, none, alt}
use Rattle.pol_pattern.specs.Sets.{InClass, InFactor, InTerm, InTerms}
use Rattle.pol_pattern.specs.Spelling.{Holds}
use Rattle.pol_pattern.specs.Matching.{MatchLaw}
use Rattle.pol_pattern.proofs.TreeTexts.{text_joined}
use Rattle.pol_pattern.proofs.Laws.{test_is_set}
use Rattle.pol_pattern.proofs.Marks.{matches_holds}

class_text : (c : Class) (text : List ℕ) → InClass c text → is_text text ≡ true
unfolding holds_symbol
class_text c text (symbol, is, held) =
    let here : is_symbol symbol ≡ true = (and_parts (is_symbol symbol) _ held).0 in
    rw (is, here) refl

joins_text : (P : List ℕ → Type 0) → ((text : List ℕ) → P text → is_text text ≡ true) → (parts : List (List ℕ)) → AllByRecursion P parts → is_text (concat parts) ≡ true
joins_text P texts [] all = refl
joins_text P texts (part ∷ parts) all = text_joined part (concat parts) (texts part all.0) (joins_text P texts parts all.1)

mutual
  factor_text : (factor : Factor) (text : List ℕ) → InFactor factor text → is_text text ≡ true
  factor_text (class c) text h = class_text c text h
  factor_text (group terms) text h = terms_text terms text h
  factor_text (star terms) text (parts, all, is) = rw is (joins_text (InTerms terms) (terms_text terms) parts all)

  term_text : (term : Term) (text : List ℕ) → InTerm term text → is_text text ≡ true
  term_text empty text h = rw h refl
  term_text (put factor term) text (front, back, is, one, rest) = rw is (text_joined front back (factor_text factor front one) (term_text term back rest))

  terms_text : (terms : Terms) (text : List ℕ) → InTerms terms text → is_text text ≡ true
  terms_text none text h = absurd h
  terms_text (alt term terms) text (inl h) = term_text term text h
  terms_text (alt term terms) text (inr h) = terms_text terms text h

pub held_text : (source text : List ℕ) → Holds source text → IsTrue (is_text text)
held_text source text h = terms_text h.0 text h.2

pub match_law : MatchLaw
match_law = record { same = test_is_set matches_holds; texts = held_text }
