-- The tree of a pattern is one that the grammar of patterns allows.
use Rattle.std.proofs.Common.{◌≡◌, ℕ, Bool, true, false, ◌&&◌, ◌||◌, not, eqb, leb, cond, Option, List, [], ◌∷◌, codes, refl, sym, ap, ap₂, ◌∙◌, arith}
use Rattle.std.specs.List.{list_any, list_all}
use Rattle.std.specs.Option.{is_some}
use Rattle.std.specs.Fmt.{decimal}
use Rattle.std.proofs.lemmas.Bool.{and_parts, and_from, or_parts, or_from, le-leb, leb-true}
use Rattle.std.proofs.lemmas.List.Folds.{list_any-append}
use Rattle.basics.specs.Symbol.{is_symbol}
use Rattle.pol_pattern.specs.declared.version.Version.TheVariants.{Two}
use Rattle.pol_pattern.specs.Spelling.{ClassSymbol, plain, quoted, one, range, asterisk, exactly, between, Alternatives, Sequence, Repetition, single, or, nothing, next, once, repeated, literal, dot, bracket, escaped, is_special, is_right_suffix, is_right_class_symbol, class_symbol, is_right_item, begins_with_caret, is_right_alternatives, is_right_sequence, is_right_repetition, is_right_atom}
use Rattle.posix_expression.specs.declared.tree.Item.{Item}
use Rattle.posix_expression.specs.declared.tree.Item.TheVariants.{One, Range}
use Rattle.posix_expression.specs.declared.tree.Repeats.{Repeats}
use Rattle.posix_expression.specs.declared.tree.Repeats.TheVariants.{Any, More, Optional, Between, AtLeast}
use Rattle.posix_expression.specs.Syntax.{Expression, blank, symbol, period, bracketed, begin, end, subexpression, duplicated, concatenated, alternated, has_begin, has_end, is_piece, is_formed, is_formed_item, is_formed_count}
use Rattle.posix_expression.specs.Writing.{is_quoted, is_quoted_in_class, is_run}
use Rattle.posix_expression.proofs.PatternSets.{append, in_parentheses, as_sequence, join_alternatives}
use Rattle.posix_expression.proofs.PatternTrees.{symbol_atom, class_symbol_of, item_of, items_of, any_sequence, around_part, counts_suffix, repeated_part, pattern_tree, part_tree}
use Rattle.posix_expression.proofs.Parts.{symbol_is}
use Rattle.posix_expression.proofs.Repeated.{range_some}
use Rattle.posix_expression.proofs.Spelling.{formed_both}

-- ---- symbols

not_special : (byte : ℕ) → is_quoted byte ≡ false → is_special Two byte ≡ false
not_special byte h =
    (or_parts (list_any (λ sign. eqb byte sign) (codes "|*+?.[()\\{}")) (list_any (λ sign. eqb byte sign) (codes "^$"))
    (sym (list_any-append (λ sign. eqb byte sign) (codes "|*+?.[()\\{}") (codes "^$")) ∙ h)).0

pub symbol_right : (byte : ℕ) → is_symbol byte ≡ true → is_right_atom Two (symbol_atom byte) ≡ true
symbol_right byte here = by (is_quoted byte) refl
  where
    by : (b : Bool) → is_quoted byte ≡ b → is_right_atom Two (cond b (escaped byte) (literal byte)) ≡ true
    by true e = here
    by false e = and_from (is_symbol byte) (not (is_special Two byte)) here (ap not (not_special byte e))

class_right : (byte : ℕ) → is_symbol byte ≡ true → is_right_class_symbol (class_symbol_of byte) ≡ true
class_right byte here = by (is_quoted_in_class byte) refl
  where
    by : (b : Bool) → is_quoted_in_class byte ≡ b → is_right_class_symbol (cond b (quoted byte) (plain byte)) ≡ true
    by true e = here
    by false e =
        let p = or_parts (eqb byte 93) (eqb byte 92 || (eqb byte 45 || (eqb byte 94 || false))) e in
        let q = or_parts (eqb byte 92) (eqb byte 45 || (eqb byte 94 || false)) p.1 in
        let r = or_parts (eqb byte 45) (eqb byte 94 || false) q.1 in
        and_from (is_symbol byte) (not (eqb byte 93 || eqb byte 92 || eqb byte 45)) here
        (ap not (or_from (eqb byte 93 || eqb byte 92) (eqb byte 45) (or_from (eqb byte 93) (eqb byte 92) p.0 q.0) r.0))

no_caret : (byte : ℕ) → begins_with_caret (one (class_symbol_of byte)) ≡ false
no_caret byte = by (is_quoted_in_class byte) refl
  where
    by : (b : Bool) → is_quoted_in_class byte ≡ b → begins_with_caret (one (cond b (quoted byte) (plain byte))) ≡ false
    by true e = refl
    by false e =
        let p = or_parts (eqb byte 93) (eqb byte 92 || (eqb byte 45 || (eqb byte 94 || false))) e in
        let q = or_parts (eqb byte 92) (eqb byte 45 || (eqb byte 94 || false)) p.1 in
        let r = or_parts (eqb byte 45) (eqb byte 94 || false) q.1 in
        (or_parts (eqb byte 94) false r.1).0

same_caret : (a b : ClassSymbol) → begins_with_caret (range a b) ≡ begins_with_caret (one a)
same_caret (plain byte) b = refl
same_caret (quoted byte) b = refl

no_caret_item : (item : Item) → begins_with_caret (item_of item) ≡ false
no_caret_item (One byte) = no_caret byte
no_caret_item (Range first last) = same_caret (class_symbol_of first) (class_symbol_of last) ∙ no_caret first

item_right : (item : Item) → is_formed_item item ≡ true → is_right_item (item_of item) ≡ true
item_right (One byte) formed = class_right byte formed
item_right (Range first last) formed =
    let p = and_parts (is_symbol first && is_symbol last) (leb first last) formed in
    let q = and_parts (is_symbol first) (is_symbol last) p.0 in
    and_from (is_right_class_symbol (class_symbol_of first) && is_right_class_symbol (class_symbol_of last)) (leb (class_symbol (class_symbol_of first)) (class_symbol (class_symbol_of last)))
    (and_from (is_right_class_symbol (class_symbol_of first)) (is_right_class_symbol (class_symbol_of last)) (class_right first q.0) (class_right last q.1))
    (ap₂ (λ (a b : ℕ). leb a b) (symbol_is first) (symbol_is last) ∙ p.1)

items_right : (items : List Item) → list_all is_formed_item items ≡ true → list_all is_right_item (items_of items) ≡ true
items_right [] formed = refl
items_right (item ∷ items) formed =
    let p = and_parts (is_formed_item item) (list_all is_formed_item items) formed in
    and_from (is_right_item (item_of item)) (list_all is_right_item (items_of items)) (item_right item p.0) (items_right items p.1)

bracket_right : (negated : Bool) (first : Item) (others : List Item) → (is_formed_item first && list_all is_formed_item others) ≡ true
    → is_right_atom Two (bracket negated (item_of first) (items_of others)) ≡ true
bracket_right negated first others formed =
    let p = and_parts (is_formed_item first) (list_all is_formed_item others) formed in
    and_from (is_right_item (item_of first) && list_all is_right_item (items_of others)) (negated || not (begins_with_caret (item_of first)))
    (and_from (is_right_item (item_of first)) (list_all is_right_item (items_of others)) (item_right first p.0) (items_right others p.1))
    (caret negated)
  where
    caret : (n : Bool) → (n || not (begins_with_caret (item_of first))) ≡ true
    caret true = refl
    caret false = ap not (no_caret_item first)

-- ---- sequences

pub append_right : (s t : Sequence) → is_right_sequence Two s ≡ true → is_right_sequence Two t ≡ true → is_right_sequence Two (append s t) ≡ true
append_right nothing t first second = second
append_right (next part more) t first second =
    let p = and_parts (is_right_repetition Two part) (is_right_sequence Two more) first in
    and_from (is_right_repetition Two part) (is_right_sequence Two (append more t)) p.0 (append_right more t p.1 second)

pub next_right : (part : Repetition) (s : Sequence) → is_right_repetition Two part ≡ true → is_right_sequence Two s ≡ true → is_right_sequence Two (next part s) ≡ true
next_right part s first second = and_from (is_right_repetition Two part) (is_right_sequence Two s) first second

pub any_right : (b : Bool) → is_right_sequence Two (any_sequence b) ≡ true
any_right true = refl
any_right false = refl

pub around_right : (opens closes : Bool) (part : Repetition) → is_right_repetition Two part ≡ true → is_right_sequence Two (around_part opens part closes) ≡ true
around_right opens closes part right =
    append_right (any_sequence opens) (next part (any_sequence closes)) (any_right opens) (next_right part (any_sequence closes) right (any_right closes))

pub as_right : (a : Alternatives) → is_right_alternatives Two a ≡ true → is_right_sequence Two (as_sequence a) ≡ true
as_right (single s) right = right
as_right (or s others) right = and_from (is_right_alternatives Two (or s others)) true right refl

join_right : (a b : Alternatives) → is_right_alternatives Two a ≡ true → is_right_alternatives Two b ≡ true → is_right_alternatives Two (join_alternatives a b) ≡ true
join_right (single s) b first second = and_from (is_right_sequence Two s) (is_right_alternatives Two b) first second
join_right (or s more) b first second =
    let p = and_parts (is_right_sequence Two s) (is_right_alternatives Two more) first in
    and_from (is_right_sequence Two s) (is_right_alternatives Two (join_alternatives more b)) p.0 (join_right more b p.1 second)

-- ---- repeats

counts_right : (low high : ℕ) → (leb low high && leb high 32) ≡ true → is_right_suffix Two (counts_suffix low high) ≡ true
counts_right low high h = by (eqb low high)
  where
    lower : (leb low low && leb low 32) ≡ true
    lower =
        let p = and_parts (leb low high) (leb high 32) h in
        and_from (leb low low) (leb low 32) (le-leb low low (omega arith)) (le-leb low 32 (omega (arith, leb-true low high p.0, leb-true high 32 p.1)))

    by : (b : Bool) → is_right_suffix Two (cond b (exactly (decimal low)) (between (decimal low) (decimal high))) ≡ true
    by true = ap (λ (o : Option (ℕ × ℕ)). is_some o) (range_some low low lower)
    by false = ap (λ (o : Option (ℕ × ℕ)). is_some o) (range_some low high h)

repeated_right : (repeats : Repeats) (part : Repetition) → is_formed_count repeats ≡ true → is_right_repetition Two part ≡ true → is_right_repetition Two (repeated_part repeats part) ≡ true
repeated_right Any part count right = and_from (is_right_repetition Two part) true right refl
repeated_right More part count right = and_from (is_right_repetition Two part) true right refl
repeated_right Optional part count right = and_from (is_right_repetition Two part) true right refl
repeated_right (Between low high) part count right = and_from (is_right_repetition Two part) (is_right_suffix Two (counts_suffix low high)) right (counts_right low high count)
repeated_right (AtLeast low) part count right =
    next_right (repeated part (counts_suffix low low)) (next (repeated part asterisk) nothing)
    (and_from (is_right_repetition Two part) (is_right_suffix Two (counts_suffix low low)) right
    (counts_right low low (and_from (leb low low) (leb low 32) (le-leb low low (omega arith)) count)))
    (next_right (repeated part asterisk) nothing (and_from (is_right_repetition Two part) true right refl) refl)

-- ---- expressions

mutual
  pub tree_right : (opens closes : Bool) (e : Expression) → is_formed e ≡ true → is_right_alternatives Two (pattern_tree opens closes e) ≡ true
  tree_right opens closes blank formed = any_right (opens || closes)
  tree_right opens closes (symbol byte) formed = around_right opens closes (once (symbol_atom byte)) (symbol_right byte formed)
  tree_right opens closes period formed = around_right opens closes (once dot) refl
  tree_right opens closes (bracketed negated first others) formed =
      around_right opens closes (once (bracket negated (item_of first) (items_of others))) (bracket_right negated first others formed)
  tree_right opens closes begin formed = any_right closes
  tree_right opens closes end formed = any_right opens
  tree_right opens closes (subexpression inner) formed =
      around_right (opens && not (has_begin inner)) (closes && not (has_end inner)) (in_parentheses (pattern_tree (opens && has_begin inner) (closes && has_end inner) inner))
      (tree_right (opens && has_begin inner) (closes && has_end inner) inner formed)
  tree_right opens closes (duplicated part repeats) formed =
      let f = and_parts (is_formed part) (is_piece part && is_formed_count repeats) formed in
      let g = and_parts (is_piece part) (is_formed_count repeats) f.1 in
      around_right (opens && not (is_run part repeats)) (closes && not (is_run part repeats)) (repeated_part repeats (part_tree part))
      (repeated_right repeats (part_tree part) g.1 (part_right part f.0))
  tree_right opens closes (concatenated first second) formed =
      let said = formed_both first second formed in
      append_right (as_sequence (pattern_tree opens false first)) (as_sequence (pattern_tree false closes second))
      (as_right (pattern_tree opens false first) (tree_right opens false first said.first_formed))
      (as_right (pattern_tree false closes second) (tree_right false closes second said.second_formed))
  tree_right opens closes (alternated first second) formed =
      let f = and_parts (is_formed first) (is_formed second) formed in
      join_right (pattern_tree opens closes first) (pattern_tree opens closes second) (tree_right opens closes first f.0) (tree_right opens closes second f.1)

  part_right : (e : Expression) → is_formed e ≡ true → is_right_repetition Two (part_tree e) ≡ true
  part_right blank formed = refl
  part_right (symbol byte) formed = symbol_right byte formed
  part_right period formed = refl
  part_right (bracketed negated first others) formed = bracket_right negated first others formed
  part_right begin formed = refl
  part_right end formed = refl
  part_right (subexpression inner) formed = tree_right false false inner formed
  part_right (duplicated part repeats) formed =
      let f = and_parts (is_formed part) (is_piece part && is_formed_count repeats) formed in
      let g = and_parts (is_piece part) (is_formed_count repeats) f.1 in
      repeated_right repeats (part_tree part) g.1 (part_right part f.0)
  part_right (concatenated first second) formed = refl
  part_right (alternated first second) formed = refl
