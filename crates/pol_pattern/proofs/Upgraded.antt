-- The new source of a pattern of version 1 spells the same pattern.
use Rattle.std.proofs.Common.{◌≡◌, ℕ, ◌+◌, ◌*◌, ◌≤◌, Bool, true, false, not, ◌&&◌, ◌||◌, cond, eqb, max, nat_le, List, [], ◌∷◌, ◌++◌, length, get_or, drop, ◌<◌, refl, sym, ap, ap₂, subst, ◌∙◌, append_assoc, append-nil, arith}
use Rattle.std.specs.List.{list_all}
use Rattle.std.proofs.lemmas.Bool.{and_parts, and_from, not-true}
use Rattle.std.proofs.lemmas.List.{at_drop_more, at_drop_all}
use Rattle.basics.specs.Symbol.{is_symbol}
use Rattle.pol_pattern.specs.declared.version.Version.TheVariants.{One, Two}
use Rattle.pol_pattern.specs.Flat.{empty, put, group, Term, Terms, alt, none, join_term}
use Rattle.pol_pattern.specs.Sets.{InTerms}
use Rattle.pol_pattern.specs.Spelling.{ClassSymbol, plain, quoted, Item, one, range, Suffix, asterisk, plus, question, exactly, between, Alternatives, Sequence, Repetition, Atom, single, or, nothing, next, once, repeated, literal, dot, bracket, parentheses, escaped, class_symbol, class_symbol_bytes, item_bytes, items_bytes, negation_bytes, suffix_bytes, alternatives_bytes, sequence_bytes, repetition_bytes, atom_bytes, is_special, is_right_class_symbol, is_right_item, begins_with_caret, is_right_suffix, suffix_repeat, repeat_factors, is_right_alternatives, is_right_sequence, is_right_repetition, is_right_atom, alternatives_depth, sequence_depth, repetition_depth, atom_depth, alternatives_terms, sequence_factors, repetition_factors, atom_factors, SpellsBy, Spells}
use Rattle.pol_pattern.specs.Upgrading.{in_class_after, quoted_after, needs_mark, with_mark, upgraded_from, upgraded, UpgradeLaw}
use Rattle.pol_pattern.proofs.TokenFacts.{not_special}
use Rattle.pol_pattern.proofs.Held.{spells_one}

-- ---- the length at most doubles

mark_length : (inside marked : Bool) (byte : ℕ) (rest : List ℕ) → length (with_mark inside marked byte rest) ≤ 2 + length rest
mark_length inside marked byte rest = by (not (inside || marked) && (eqb byte 123 || eqb byte 125))
  where
    by : (b : Bool) → length (cond b (92 ∷ byte ∷ rest) (byte ∷ rest)) ≤ 2 + length rest
    by true = omega arith
    by false = omega arith

upgraded_length : (inside marked : Bool) (bytes : List ℕ) → length (upgraded_from inside marked bytes) ≤ 2 * length bytes
unfolding upgraded_from
upgraded_length inside marked [] = omega arith
upgraded_length inside marked (byte ∷ rest) =
    let more = upgraded_length (in_class_after inside marked byte) (quoted_after marked byte) rest in
    omega (arith, more, mark_length inside marked byte (upgraded_from (in_class_after inside marked byte) (quoted_after marked byte) rest))

-- ---- byte by byte

-- what was written so far, and what follows a byte
pub byte_step : (source more after : List ℕ) (inside marked going quoting : Bool) (bytes : List ℕ) (i : ℕ) (total : List ℕ) → i < length bytes
    → going ≡ in_class_after inside marked (get_or bytes i 0) → quoting ≡ quoted_after marked (get_or bytes i 0)
    → more ≡ cond (needs_mark inside marked (get_or bytes i 0)) (source ++ 92 ∷ []) source → after ≡ more ++ get_or bytes i 0 ∷ []
    → source ++ upgraded_from inside marked (drop i bytes) ≡ total → after ++ upgraded_from going quoting (drop (i + 1) bytes) ≡ total
unfolding upgraded_from
byte_step source more after inside marked going quoting bytes i total lt goes quotes mark written so_far =
    rw (goes, quotes, written, mark)
    (by (needs_mark inside marked (get_or bytes i 0)) ∙ sym (at_drop_more (λ (t : List ℕ). source ++ upgraded_from inside marked t) bytes i 0 lt) ∙ so_far)
  where
    byte : ℕ
    byte = get_or bytes i 0

    rest : List ℕ
    rest = upgraded_from (in_class_after inside marked byte) (quoted_after marked byte) (drop (i + 1) bytes)

    by : (b : Bool) → (cond b (source ++ 92 ∷ []) source ++ byte ∷ []) ++ rest ≡ source ++ cond b (92 ∷ byte ∷ rest) (byte ∷ rest)
    by true = simp append_assoc
    by false = append_assoc source (byte ∷ []) rest

pub bytes_end : (source : List ℕ) (inside marked : Bool) (bytes : List ℕ) (i : ℕ) (total : List ℕ) → length bytes ≤ i → source ++ upgraded_from inside marked (drop i bytes) ≡ total → source ≡ total
unfolding upgraded_from
bytes_end source inside marked bytes i total le so_far =
    sym (append-nil source) ∙ sym (at_drop_all (λ (t : List ℕ). source ++ upgraded_from inside marked t) bytes i le) ∙ so_far

-- ---- the bytes of a class stay

abbrev InClassKept : List ℕ → Type 0
InClassKept bytes = (rest : List ℕ) → upgraded_from true false (bytes ++ rest) ≡ bytes ++ upgraded_from true false rest

both_kept : (front back : List ℕ) → InClassKept front → InClassKept back → InClassKept (front ++ back)
both_kept front back first behind rest =
    ap (upgraded_from true false) (append_assoc front back rest) ∙ first (back ++ rest) ∙ ap (λ (t : List ℕ). front ++ t) (behind rest)
    ∙ sym (append_assoc front back (upgraded_from true false rest))

class_symbol_kept : (tree : ClassSymbol) → is_right_class_symbol tree ≡ true → InClassKept (class_symbol_bytes tree)
unfolding upgraded_from
class_symbol_kept (plain symbol) right rest =
    let ordinary = not-true (eqb symbol 93 || eqb symbol 92 || eqb symbol 45) (and_parts (is_symbol symbol) (not (eqb symbol 93 || eqb symbol 92 || eqb symbol 45)) right).1 in
    plain_kept (eqb symbol 91) (eqb symbol 93) (eqb symbol 92) (eqb symbol 45) ordinary
  where
    plain_kept : (opens ends quotes dash : Bool) → (ends || quotes || dash) ≡ false
        → symbol ∷ upgraded_from (opens || not ends) quotes rest ≡ symbol ∷ upgraded_from true false rest
    plain_kept true false false dash lacking = refl
    plain_kept false false false dash lacking = refl
    plain_kept opens true quotes dash lacking = absurd cc
    plain_kept opens false true dash lacking = absurd cc
class_symbol_kept (quoted symbol) right rest = refl

dash_kept : InClassKept (45 ∷ [])
unfolding upgraded_from
dash_kept rest = refl

item_kept : (tree : Item) → is_right_item tree ≡ true → InClassKept (item_bytes tree)
item_kept (one symbol) right = class_symbol_kept symbol right
item_kept (range first final) right =
    let outer = and_parts (is_right_class_symbol first && is_right_class_symbol final) (nat_le (class_symbol first) (class_symbol final)) right in
    let inner = and_parts (is_right_class_symbol first) (is_right_class_symbol final) outer.0 in
    both_kept (class_symbol_bytes first) (45 ∷ class_symbol_bytes final) (class_symbol_kept first inner.0)
    (both_kept (45 ∷ []) (class_symbol_bytes final) dash_kept (class_symbol_kept final inner.1))

items_kept : (trees : List Item) → list_all is_right_item trees ≡ true → InClassKept (items_bytes trees)
items_kept [] right = λ rest. refl
items_kept (tree ∷ trees) right =
    let parts = and_parts (is_right_item tree) (list_all is_right_item trees) right in
    both_kept (item_bytes tree) (items_bytes trees) (item_kept tree parts.0) (items_kept trees parts.1)

negation_kept : (negated : Bool) → InClassKept (negation_bytes negated)
unfolding upgraded_from
negation_kept true rest = refl
negation_kept false rest = refl

class_ended : (rest : List ℕ) → upgraded_from true false (93 ∷ rest) ≡ 93 ∷ upgraded_from false false rest
unfolding upgraded_from
class_ended rest = refl

class_opened : (rest : List ℕ) → upgraded_from false false (91 ∷ rest) ≡ 91 ∷ upgraded_from true false rest
unfolding upgraded_from
class_opened rest = refl

-- ---- trees

-- the bytes are replaced by these, outside classes
abbrev Gives : List ℕ → List ℕ → Type 0
Gives bytes new = (rest : List ℕ) → upgraded (bytes ++ rest) ≡ new ++ upgraded rest

both_give : (a b x y : List ℕ) → Gives a x → Gives b y → Gives (a ++ b) (x ++ y)
both_give a b x y first behind rest =
    ap upgraded (append_assoc a b rest) ∙ first (b ++ rest) ∙ ap (λ (t : List ℕ). x ++ t) (behind rest) ∙ sym (append_assoc x y (upgraded rest))

-- a tree of version 2 of the same pattern
record NewAlternatives (tree : Alternatives) : Type 0 where
  pub new : Alternatives
  pub right : is_right_alternatives Two new ≡ true
  pub bytes : Gives (alternatives_bytes tree) (alternatives_bytes new)
  pub terms : alternatives_terms new ≡ alternatives_terms tree
  pub depth : alternatives_depth new ≡ alternatives_depth tree

record NewSequence (tree : Sequence) : Type 0 where
  pub new : Sequence
  pub right : is_right_sequence Two new ≡ true
  pub bytes : Gives (sequence_bytes tree) (sequence_bytes new)
  pub factors : sequence_factors new ≡ sequence_factors tree
  pub depth : sequence_depth new ≡ sequence_depth tree

record NewRepetition (tree : Repetition) : Type 0 where
  pub new : Repetition
  pub right : is_right_repetition Two new ≡ true
  pub bytes : Gives (repetition_bytes tree) (repetition_bytes new)
  pub factors : repetition_factors new ≡ repetition_factors tree
  pub depth : repetition_depth new ≡ repetition_depth tree

record NewAtom (tree : Atom) : Type 0 where
  pub new : Atom
  pub right : is_right_atom Two new ≡ true
  pub bytes : Gives (atom_bytes tree) (atom_bytes new)
  pub factors : atom_factors new ≡ atom_factors tree
  pub depth : atom_depth new ≡ atom_depth tree

suffix_given : (suffix : Suffix) → is_right_suffix One suffix ≡ true → Gives (suffix_bytes suffix) (suffix_bytes suffix)
unfolding upgraded_from
suffix_given asterisk right rest = refl
suffix_given plus right rest = refl
suffix_given question right rest = refl
suffix_given (exactly count) right rest = absurd cc
suffix_given (between low high) right rest = absurd cc

suffix_right : (suffix : Suffix) → is_right_suffix One suffix ≡ true → is_right_suffix Two suffix ≡ true
suffix_right asterisk right = refl
suffix_right plus right = refl
suffix_right question right = refl
suffix_right (exactly count) right = absurd cc
suffix_right (between low high) right = absurd cc

bar_given : Gives (124 ∷ []) (124 ∷ [])
unfolding upgraded_from
bar_given rest = refl

open_given : Gives (40 ∷ []) (40 ∷ [])
unfolding upgraded_from
open_given rest = refl

close_given : Gives (41 ∷ []) (41 ∷ [])
unfolding upgraded_from
close_given rest = refl

dot_given : Gives (46 ∷ []) (46 ∷ [])
unfolding upgraded_from
dot_given rest = refl

escaped_given : (symbol : ℕ) → Gives (92 ∷ symbol ∷ []) (92 ∷ symbol ∷ [])
unfolding upgraded_from
escaped_given symbol rest = refl

bracket_given : (negated : Bool) (first : Item) (others : List Item) → list_all is_right_item (first ∷ others) ≡ true → Gives (atom_bytes (bracket negated first others)) (atom_bytes (bracket negated first others))
bracket_given negated first others right rest =
    let inside : List ℕ = negation_bytes negated ++ items_bytes (first ∷ others) in
    let kept : InClassKept inside = both_kept (negation_bytes negated) (items_bytes (first ∷ others)) (negation_kept negated) (items_kept (first ∷ others) right) in
    let front : atom_bytes (bracket negated first others) ++ rest ≡ 91 ∷ (inside ++ 93 ∷ rest) = simp append_assoc in
    let back : 91 ∷ (inside ++ 93 ∷ upgraded rest) ≡ atom_bytes (bracket negated first others) ++ upgraded rest = simp append_assoc in
    ap upgraded front ∙ class_opened (inside ++ 93 ∷ rest) ∙ ap (λ (t : List ℕ). 91 ∷ t) (kept (93 ∷ rest) ∙ ap (λ (t : List ℕ). inside ++ t) (class_ended rest)) ∙ back

-- a literal of version 1 that is a brace wants its `\`
marked_given : (symbol : ℕ) → (eqb symbol 123 || eqb symbol 125) ≡ true → eqb symbol 91 ≡ false → eqb symbol 92 ≡ false → Gives (symbol ∷ []) (92 ∷ symbol ∷ [])
unfolding upgraded_from
marked_given symbol brace opens quotes rest = rw (brace, opens, quotes) refl

plain_given : (symbol : ℕ) → (eqb symbol 123 || eqb symbol 125) ≡ false → eqb symbol 91 ≡ false → eqb symbol 92 ≡ false → Gives (symbol ∷ []) (symbol ∷ [])
unfolding upgraded_from
plain_given symbol brace opens quotes rest = rw (brace, opens, quotes) refl

still_ordinary : (symbol : ℕ) → is_special One symbol ≡ false → (eqb symbol 123 || eqb symbol 125) ≡ false → is_special Two symbol ≡ false
still_ordinary symbol ordinary brace =
    let curly = or_parts (eqb symbol 123) (eqb symbol 125) brace in
    rw (
      not_special One symbol 124 ordinary refl,
      not_special One symbol 42 ordinary refl,
      not_special One symbol 43 ordinary refl,
      not_special One symbol 63 ordinary refl,
      not_special One symbol 46 ordinary refl,
      not_special One symbol 91 ordinary refl,
      not_special One symbol 40 ordinary refl,
      not_special One symbol 41 ordinary refl,
      not_special One symbol 92 ordinary refl,
      curly.0,
      curly.1,
    ) refl
  where
    or_parts : (a b : Bool) → (a || b) ≡ false → (a ≡ false) × (b ≡ false)
    or_parts true b e = absurd cc
    or_parts false b e = (refl, e)

new_literal : (symbol : ℕ) → is_right_atom One (literal symbol) ≡ true → NewAtom (literal symbol)
new_literal symbol right = by (eqb symbol 123 || eqb symbol 125) refl
  where
    parts : (is_symbol symbol ≡ true) × (not (is_special One symbol) ≡ true)
    parts = and_parts (is_symbol symbol) (not (is_special One symbol)) right

    ordinary : is_special One symbol ≡ false
    ordinary = not-true (is_special One symbol) parts.1

    by : (b : Bool) → (eqb symbol 123 || eqb symbol 125) ≡ b → NewAtom (literal symbol)
    by true e = record {
      new = escaped symbol;
      right = parts.0;
      bytes = marked_given symbol e (not_special One symbol 91 ordinary refl) (not_special One symbol 92 ordinary refl);
      factors = refl;
      depth = refl;
    }
    by false e = record {
      new = literal symbol;
      right = and_from (is_symbol symbol) (not (is_special Two symbol)) parts.0 (ap not (still_ordinary symbol ordinary e));
      bytes = plain_given symbol e (not_special One symbol 91 ordinary refl) (not_special One symbol 92 ordinary refl);
      factors = refl;
      depth = refl;
    }

mutual
  new_alternatives : (tree : Alternatives) → is_right_alternatives One tree ≡ true → NewAlternatives tree
  new_alternatives (single sequence) right =
      let a = new_sequence sequence right in
      record { new = single a.new; right = a.right; bytes = a.bytes; terms = ap (λ (t : Term). alt t none) a.factors; depth = a.depth }
  new_alternatives (or sequence others) right =
      let parts = and_parts (is_right_sequence One sequence) (is_right_alternatives One others) right in
      let a = new_sequence sequence parts.0 in
      let b = new_alternatives others parts.1 in
      record {
        new = or a.new b.new;
        right = and_from (is_right_sequence Two a.new) (is_right_alternatives Two b.new) a.right b.right;
        bytes = both_give (sequence_bytes sequence) (124 ∷ alternatives_bytes others) (sequence_bytes a.new) (124 ∷ alternatives_bytes b.new) a.bytes
            (both_give (124 ∷ []) (alternatives_bytes others) (124 ∷ []) (alternatives_bytes b.new) bar_given b.bytes);
        terms = ap₂ (λ (t : Term) (ts : Terms). alt t ts) a.factors b.terms;
        depth = ap₂ max a.depth b.depth;
      }

  new_sequence : (tree : Sequence) → is_right_sequence One tree ≡ true → NewSequence tree
  new_sequence nothing right = record { new = nothing; right = refl; bytes = λ rest. refl; factors = refl; depth = refl }
  new_sequence (next first others) right =
      let parts = and_parts (is_right_repetition One first) (is_right_sequence One others) right in
      let a = new_repetition first parts.0 in
      let b = new_sequence others parts.1 in
      record {
        new = next a.new b.new;
        right = and_from (is_right_repetition Two a.new) (is_right_sequence Two b.new) a.right b.right;
        bytes = both_give (repetition_bytes first) (sequence_bytes others) (repetition_bytes a.new) (sequence_bytes b.new) a.bytes b.bytes;
        factors = ap₂ join_term a.factors b.factors;
        depth = ap₂ max a.depth b.depth;
      }

  new_repetition : (tree : Repetition) → is_right_repetition One tree ≡ true → NewRepetition tree
  new_repetition (once atom) right =
      let a = new_atom atom right in
      record { new = once a.new; right = a.right; bytes = a.bytes; factors = a.factors; depth = a.depth }
  new_repetition (repeated inner suffix) right =
      let parts = and_parts (is_right_repetition One inner) (is_right_suffix One suffix) right in
      let a = new_repetition inner parts.0 in
      record {
        new = repeated a.new suffix;
        right = and_from (is_right_repetition Two a.new) (is_right_suffix Two suffix) a.right (suffix_right suffix parts.1);
        bytes = both_give (repetition_bytes inner) (suffix_bytes suffix) (repetition_bytes a.new) (suffix_bytes suffix) a.bytes (suffix_given suffix parts.1);
        factors = ap (repeat_factors (suffix_repeat suffix)) a.factors;
        depth = a.depth;
      }

  new_atom : (tree : Atom) → is_right_atom One tree ≡ true → NewAtom tree
  new_atom (literal symbol) right = new_literal symbol right
  new_atom dot right = record { new = dot; right = refl; bytes = dot_given; factors = refl; depth = refl }
  new_atom (bracket negated first others) right =
      let parts = and_parts (is_right_item first && list_all is_right_item others) (negated || not (begins_with_caret first)) right in
      record { new = bracket negated first others; right = right; bytes = bracket_given negated first others parts.0; factors = refl; depth = refl }
  new_atom (parentheses inner) right =
      let a = new_alternatives inner right in
      record {
        new = parentheses a.new;
        right = a.right;
        bytes = both_give (40 ∷ []) (alternatives_bytes inner ++ 41 ∷ []) (40 ∷ []) (alternatives_bytes a.new ++ 41 ∷ []) open_given
            (both_give (alternatives_bytes inner) (41 ∷ []) (alternatives_bytes a.new) (41 ∷ []) a.bytes close_given);
        factors = ap (λ (t : Terms). put (group t) empty) a.terms;
        depth = ap (λ (d : ℕ). d + 1) a.depth;
      }
  new_atom (escaped symbol) right = record { new = escaped symbol; right = right; bytes = escaped_given symbol; factors = refl; depth = refl }

-- ---- patterns

nothing_given : upgraded [] ≡ []
unfolding upgraded_from
nothing_given = refl

pub upgrade_spelled : (source : List ℕ) (flat : Terms) → SpellsBy One source flat → Spells (upgraded source) flat
upgrade_spelled source flat (tree, right, same, is, short, few, small) =
    let a = new_alternatives tree right in
    let whole : alternatives_bytes a.new ≡ upgraded source =
    sym (append-nil (alternatives_bytes a.new)) ∙ ap (λ (t : List ℕ). alternatives_bytes a.new ++ t) (sym nothing_given)
    ∙ sym (a.bytes []) ∙ ap upgraded (append-nil (alternatives_bytes tree) ∙ same) in
    (a.new, a.right, whole, a.terms ∙ is, omega (arith, upgraded_length false false source), omega (arith, a.depth), small)

pub upgrade_law : UpgradeLaw
upgrade_law = record {
  spelled = upgrade_spelled;
  same = λ source text flat spelled. (
    (λ held. (held.0, upgrade_spelled source held.0 held.1, held.2)),
    (λ held. (flat, spelled, subst (λ (f : Terms). InTerms f text) (spells_one Two (upgraded source) held.0 flat held.1 (upgrade_spelled source flat spelled)) held.2)),
  );
}
