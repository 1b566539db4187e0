-- What a tree of the grammar spells is a text.
use Rattle.std.proofs.Common.{◌≡◌, ℕ, ◌+◌, ◌-◌, ◌*◌, nat_lt, length, Some, None, inl, inr, arith, Bool, true, false, not, ◌&&◌, ◌||◌, eqb, nat_le, List, [], ◌∷◌, ◌++◌, refl, ◌∙◌}
use Rattle.std.specs.List.{list_all}
use Rattle.std.specs.Option.{is_some}
use Rattle.std.proofs.lemmas.Bool.Decides.{nat_tests}
use Rattle.std.proofs.lemmas.Bool.{and_parts, and_from}
use Rattle.std.proofs.lemmas.List.Folds.{list_all-append}
use Rattle.basics.specs.Symbol.{is_symbol, is_text}
use Rattle.basics.specs.Number.{digits_after, number_of}
use Rattle.pol_pattern.specs.declared.version.Version.{Version}
use Rattle.pol_pattern.specs.Spelling.{Suffix, asterisk, plus, question, exactly, between, suffix_bytes, is_right_suffix, has_counts, exact_counts, range_counts, ClassSymbol, plain, quoted, Item, one, range, Alternatives, Sequence, Repetition, Atom, single, or, nothing, next, once, repeated, literal, dot, bracket, parentheses, escaped, class_symbol, class_symbol_bytes, item_bytes, items_bytes, negation_bytes, alternatives_bytes, sequence_bytes, repetition_bytes, atom_bytes, is_special, is_right_class_symbol, is_right_item, begins_with_caret, is_right_alternatives, is_right_sequence, is_right_repetition, is_right_atom}
use Rattle.pol_pattern.proofs.Steps.{chosen, none_is}
use Rattle.pol_pattern.proofs.Suffixes.{both_numbers}

pub text_joined : (xs ys : List ℕ) → is_text xs ≡ true → is_text ys ≡ true → is_text (xs ++ ys) ≡ true
text_joined xs ys first after = list_all-append is_symbol xs ys ∙ and_from (is_text xs) (is_text ys) first after

class_symbol_text : (tree : ClassSymbol) → is_right_class_symbol tree ≡ true → is_text (class_symbol_bytes tree) ≡ true
class_symbol_text (plain symbol) right =
    and_from (is_symbol symbol) true (and_parts (is_symbol symbol) (not (eqb symbol 93 || eqb symbol 92 || eqb symbol 45)) right).0 refl
class_symbol_text (quoted symbol) right = and_from (is_symbol symbol) true right refl

item_text : (tree : Item) → is_right_item tree ≡ true → is_text (item_bytes tree) ≡ true
item_text (one symbol) right = class_symbol_text symbol right
item_text (range first final) right =
    let outer = and_parts (is_right_class_symbol first && is_right_class_symbol final) (nat_le (class_symbol first) (class_symbol final)) right in
    let inner = and_parts (is_right_class_symbol first) (is_right_class_symbol final) outer.0 in
    text_joined (class_symbol_bytes first) (45 ∷ class_symbol_bytes final) (class_symbol_text first inner.0) (class_symbol_text final inner.1)

items_text : (trees : List Item) → list_all is_right_item trees ≡ true → is_text (items_bytes trees) ≡ true
items_text [] right = refl
items_text (tree ∷ trees) right =
    let parts = and_parts (is_right_item tree) (list_all is_right_item trees) right in
    text_joined (item_bytes tree) (items_bytes trees) (item_text tree parts.0) (items_text trees parts.1)

negation_text : (negated : Bool) → is_text (negation_bytes negated) ≡ true
negation_text true = refl
negation_text false = refl

digits_text : (value : ℕ) (digits : List ℕ) (n : ℕ) → digits_after value digits ≡ Some n → is_text digits ≡ true
digits_text value [] n e = refl
digits_text value (byte ∷ digits) n e =
    elim (chosen (nat_le 48 byte && nat_le byte 57) (digits_after (value * 10 + (byte - 48)) digits) None (Some n) e) [
      | inl more ↦ and_from (is_symbol byte) (is_text digits) (digit_symbol byte more.0) (digits_text (value * 10 + (byte - 48)) digits n more.1)
      | inr none ↦ absurd (none_is n none.1)
    ]
  where
    digit_symbol : (byte : ℕ) → (nat_le 48 byte && nat_le byte 57) ≡ true → is_symbol byte ≡ true
    digit_symbol byte e = grind (arith, nat_tests)

number_text : (digits : List ℕ) (n : ℕ) → number_of 2 digits ≡ Some n → is_text digits ≡ true
number_text digits n e =
    elim (chosen (nat_lt 0 (length digits) && nat_le (length digits) 2) (digits_after 0 digits) None (Some n) e) [
      | inl right ↦ digits_text 0 digits n right.1
      | inr none ↦ absurd (none_is n none.1)
    ]

pub suffix_text : (version : Version) (suffix : Suffix) → is_right_suffix version suffix ≡ true → is_text (suffix_bytes suffix) ≡ true
suffix_text version asterisk right = refl
suffix_text version plus right = refl
suffix_text version question right = refl
suffix_text version (exactly count) right =
    let parts = and_parts (has_counts version) (is_some (exact_counts count)) right in
    let numbers = both_numbers (number_of 2 count) (number_of 2 count) parts.1 in
    text_joined count (125 ∷ []) (number_text count numbers.0 numbers.2) refl
suffix_text version (between low high) right =
    let parts = and_parts (has_counts version) (is_some (range_counts low high)) right in
    let numbers = both_numbers (number_of 2 low) (number_of 2 high) parts.1 in
    text_joined low (44 ∷ (high ++ 125 ∷ [])) (number_text low numbers.0 numbers.2)
    (text_joined high (125 ∷ []) (number_text high numbers.1 numbers.3) refl)

mutual
  pub alternatives_text : (version : Version) (tree : Alternatives) → is_right_alternatives version tree ≡ true → is_text (alternatives_bytes tree) ≡ true
  alternatives_text version (single sequence) right = sequence_text version sequence right
  alternatives_text version (or sequence others) right =
      let parts = and_parts (is_right_sequence version sequence) (is_right_alternatives version others) right in
      text_joined (sequence_bytes sequence) (124 ∷ alternatives_bytes others) (sequence_text version sequence parts.0) (alternatives_text version others parts.1)

  sequence_text : (version : Version) (tree : Sequence) → is_right_sequence version tree ≡ true → is_text (sequence_bytes tree) ≡ true
  sequence_text version nothing right = refl
  sequence_text version (next first others) right =
      let parts = and_parts (is_right_repetition version first) (is_right_sequence version others) right in
      text_joined (repetition_bytes first) (sequence_bytes others) (repetition_text version first parts.0) (sequence_text version others parts.1)

  repetition_text : (version : Version) (tree : Repetition) → is_right_repetition version tree ≡ true → is_text (repetition_bytes tree) ≡ true
  repetition_text version (once atom) right = atom_text version atom right
  repetition_text version (repeated inner suffix) right =
      let parts = and_parts (is_right_repetition version inner) (is_right_suffix version suffix) right in
      text_joined (repetition_bytes inner) (suffix_bytes suffix) (repetition_text version inner parts.0) (suffix_text version suffix parts.1)

  atom_text : (version : Version) (tree : Atom) → is_right_atom version tree ≡ true → is_text (atom_bytes tree) ≡ true
  atom_text version (literal symbol) right = and_from (is_symbol symbol) true (and_parts (is_symbol symbol) (not (is_special version symbol)) right).0 refl
  atom_text version dot right = refl
  atom_text version (bracket negated first others) right =
      let parts = and_parts (is_right_item first && list_all is_right_item others) (negated || not (begins_with_caret first)) right in
      let items = and_parts (is_right_item first) (list_all is_right_item others) parts.0 in
      text_joined (negation_bytes negated ++ item_bytes first ++ items_bytes others) (93 ∷ [])
      (text_joined (negation_bytes negated ++ item_bytes first) (items_bytes others)
      (text_joined (negation_bytes negated) (item_bytes first) (negation_text negated) (item_text first items.0)) (items_text others items.1))
      refl
  atom_text version (parentheses inner) right = text_joined (alternatives_bytes inner) (41 ∷ []) (alternatives_text version inner right) refl
  atom_text version (escaped symbol) right = and_from (is_symbol symbol) true right refl
