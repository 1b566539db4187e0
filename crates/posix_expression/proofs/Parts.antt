-- What the atoms of a pattern hold.
use Rattle.std.proofs.Common.{◌≡◌, ℕ, Bool, true, false, ◌&&◌, ◌||◌, not, eqb, leb, cond, List, [], ◌∷◌, refl, sym, ap, ap₂, subst, ◌∙◌, IsTrue}
use Rattle.std.specs.List.{list_any}
use Rattle.std.proofs.lemmas.Bool.{and_parts, and_from, eqb-true, eq-eqb}
use Rattle.basics.specs.Symbol.{is_symbol}
use Rattle.pol_pattern.specs.Flat.{class, Term, empty, put, class_where}
use Rattle.pol_pattern.specs.Spelling.{plain, quoted, once, literal, dot, bracket, escaped, class_symbol, names, only, atom_factors}
use Rattle.pol_pattern.specs.Sets.{InTerm}
use Rattle.pol_pattern.proofs.ClassHolds.{class_holds}
use Rattle.posix_expression.specs.declared.tree.Item.{Item}
use Rattle.posix_expression.specs.declared.tree.Item.TheVariants.{One, Range}
use Rattle.posix_expression.specs.Finding.{has_symbol, is_among}
use Rattle.posix_expression.specs.Writing.{is_quoted, is_quoted_in_class}
use Rattle.posix_expression.proofs.PatternSets.{InPart, one_in, in_one}
use Rattle.posix_expression.proofs.PatternTrees.{symbol_atom, class_symbol_of, item_of, items_of}

-- a class by its test
in_class : (test : ℕ → Bool) (text : List ℕ) → InTerm (put (class (class_where test)) empty) text → (byte : ℕ) × (text ≡ byte ∷ []) × (test byte ≡ true)
in_class test text h =
    let held = one_in (class (class_where test)) text h in
    (held.0, held.1, (and_parts (is_symbol held.0) (test held.0) (sym (class_holds test held.0) ∙ held.2)).1)

class_in : (test : ℕ → Bool) (text : List ℕ) (byte : ℕ) → is_symbol byte ≡ true → text ≡ byte ∷ [] → test byte ≡ true → InTerm (put (class (class_where test)) empty) text
class_in test text byte h is passes =
    in_one (class (class_where test)) text (byte, is, class_holds test byte ∙ and_from (is_symbol byte) (test byte) h passes)

-- ---- a symbol

symbol_factors : (byte : ℕ) → atom_factors (symbol_atom byte) ≡ put (class (only byte)) empty
symbol_factors byte = by (is_quoted byte)
  where
    by : (b : Bool) → atom_factors (cond b (escaped byte) (literal byte)) ≡ put (class (only byte)) empty
    by true = refl
    by false = refl

pub in_symbol : (byte : ℕ) (text : List ℕ) → InPart (once (symbol_atom byte)) text → text ≡ byte ∷ []
in_symbol byte text h =
    let held = in_class (λ b. eqb b byte) text (subst (λ (f : Term). InTerm f text) (symbol_factors byte) h) in
    held.1 ∙ ap (λ (b : ℕ). b ∷ []) (eqb-true held.0 byte held.2)

pub symbol_in : (byte : ℕ) (text : List ℕ) → is_symbol byte ≡ true → text ≡ byte ∷ [] → InPart (once (symbol_atom byte)) text
symbol_in byte text h is =
    subst (λ (f : Term). InTerm f text) (sym (symbol_factors byte)) (class_in (λ b. eqb b byte) text byte h is (eq-eqb byte byte refl))

-- ---- a `.`

pub in_dot : (text : List ℕ) → InPart (once dot) text → (byte : ℕ) × (text ≡ byte ∷ [])
in_dot text h = let held = in_class (λ b. true) text h in (held.0, held.1)

pub dot_in : (text : List ℕ) (byte : ℕ) → is_symbol byte ≡ true → text ≡ byte ∷ [] → InPart (once dot) text
dot_in text byte h is = class_in (λ b. true) text byte h is refl

-- ---- a class

pub symbol_is : (byte : ℕ) → class_symbol (class_symbol_of byte) ≡ byte
symbol_is byte = by (is_quoted_in_class byte)
  where
    by : (b : Bool) → class_symbol (cond b (quoted byte) (plain byte)) ≡ byte
    by true = refl
    by false = refl

names_is : (byte : ℕ) (item : Item) → names byte (item_of item) ≡ has_symbol byte item
names_is byte (One symbol) = ap (eqb byte) (symbol_is symbol)
names_is byte (Range first last) = ap₂ (λ (a b : ℕ). leb a byte && leb byte b) (symbol_is first) (symbol_is last)

any_names : (byte : ℕ) (items : List Item) → list_any (names byte) (items_of items) ≡ list_any (has_symbol byte) items
any_names byte [] = refl
any_names byte (item ∷ items) = ap₂ (λ (a b : Bool). a || b) (names_is byte item) (any_names byte items)

pub in_bracket : (negated : Bool) (first : Item) (others : List Item) (text : List ℕ) → InPart (once (bracket negated (item_of first) (items_of others))) text
    → (byte : ℕ) × (text ≡ byte ∷ []) × IsTrue (is_among negated (first ∷ others) byte)
in_bracket true first others text h =
    let held = in_class (λ b. not (list_any (names b) (items_of (first ∷ others)))) text h in
    (held.0, held.1, ap not (sym (any_names held.0 (first ∷ others))) ∙ held.2)
in_bracket false first others text h =
    let held = in_class (λ b. list_any (names b) (items_of (first ∷ others))) text h in
    (held.0, held.1, sym (any_names held.0 (first ∷ others)) ∙ held.2)

pub bracket_in : (negated : Bool) (first : Item) (others : List Item) (text : List ℕ) (byte : ℕ) → is_symbol byte ≡ true → text ≡ byte ∷ []
    → IsTrue (is_among negated (first ∷ others) byte) → InPart (once (bracket negated (item_of first) (items_of others))) text
bracket_in true first others text byte h is among =
    class_in (λ b. not (list_any (names b) (items_of (first ∷ others)))) text byte h is (ap not (any_names byte (first ∷ others)) ∙ among)
bracket_in false first others text byte h is among =
    class_in (λ b. list_any (names b) (items_of (first ∷ others))) text byte h is (any_names byte (first ∷ others) ∙ among)
