-- The tree of a pattern is spelled as the pattern is written.
use Rattle.std.proofs.Common.{◌≡◌, ℕ, Bool, true, false, ◌&&◌, ◌||◌, not, eqb, cond, List, [], ◌∷◌, ◌++◌, refl, sym, ap, ap₂, ◌∙◌, append_assoc, append-nil}
use Rattle.std.specs.Fmt.{decimal}
use Rattle.std.proofs.lemmas.Bool.{and_parts, false≢true, true≢false}
use Rattle.pol_pattern.specs.Spelling.{plain, quoted, exactly, between, Alternatives, Sequence, Repetition, single, or, nothing, next, once, literal, dot, bracket, escaped, class_symbol_bytes, item_bytes, items_bytes, negation_bytes, suffix_bytes, alternatives_bytes, sequence_bytes, repetition_bytes, atom_bytes}
use Rattle.posix_expression.specs.declared.tree.Item.{Item}
use Rattle.posix_expression.specs.declared.tree.Item.TheVariants.{One, Range}
use Rattle.posix_expression.specs.declared.tree.Repeats.{Repeats}
use Rattle.posix_expression.specs.declared.tree.Repeats.TheVariants.{Any, More, Optional, Between, AtLeast}
use Rattle.posix_expression.specs.Syntax.{Expression, blank, symbol, period, bracketed, begin, end, subexpression, duplicated, concatenated, alternated, has_begin, has_end, is_alternated, is_piece, is_formed, is_formed_count}
use Rattle.posix_expression.specs.Writing.{is_quoted, is_quoted_in_class, symbol_written, class_symbol_written, item_written, items_written, negation_written, class_written, count_written, repeated_written, any_if, around, is_run, written}
use Rattle.posix_expression.proofs.PatternSets.{append, in_parentheses, as_sequence, join_alternatives}
use Rattle.posix_expression.proofs.PatternTrees.{symbol_atom, class_symbol_of, item_of, items_of, any_sequence, around_part, counts_suffix, repeated_part, pattern_tree, part_tree}

pub symbol_bytes : (byte : ℕ) → atom_bytes (symbol_atom byte) ≡ symbol_written byte
symbol_bytes byte = by (is_quoted byte)
  where
    by : (b : Bool) → atom_bytes (cond b (escaped byte) (literal byte)) ≡ cond b (92 ∷ byte ∷ []) (byte ∷ [])
    by true = refl
    by false = refl

class_bytes : (byte : ℕ) → class_symbol_bytes (class_symbol_of byte) ≡ class_symbol_written byte
class_bytes byte = by (is_quoted_in_class byte)
  where
    by : (b : Bool) → class_symbol_bytes (cond b (quoted byte) (plain byte)) ≡ cond b (92 ∷ byte ∷ []) (byte ∷ [])
    by true = refl
    by false = refl

item_is : (item : Item) → item_bytes (item_of item) ≡ item_written item
item_is (One byte) = class_bytes byte
item_is (Range first last) = ap₂ (λ (a b : List ℕ). a ++ 45 ∷ b) (class_bytes first) (class_bytes last)

items_are : (items : List Item) → items_bytes (items_of items) ≡ items_written items
items_are [] = refl
items_are (item ∷ items) = ap₂ (λ (a b : List ℕ). a ++ b) (item_is item) (items_are items)

negation_is : (negated : Bool) → negation_bytes negated ≡ negation_written negated
negation_is true = refl
negation_is false = refl

bracket_is : (negated : Bool) (first : Item) (others : List Item) → atom_bytes (bracket negated (item_of first) (items_of others)) ≡ class_written negated first others
bracket_is negated first others =
    ap (λ (t : List ℕ). 91 ∷ t)
    (whole (negation_bytes negated) (item_bytes (item_of first)) (items_bytes (items_of others))
    ∙ ap₂ (λ (a b : List ℕ). a ++ b) (negation_is negated) (ap₂ (λ (a b : List ℕ). a ++ (b ++ 93 ∷ [])) (item_is first) (items_are others)))
  where
    whole : (a b c : List ℕ) → ((a ++ b) ++ c) ++ 93 ∷ [] ≡ a ++ (b ++ (c ++ 93 ∷ []))
    whole a b c = simp append_assoc

-- ---- sequences

pub any_bytes : (b : Bool) → sequence_bytes (any_sequence b) ≡ any_if b
any_bytes true = refl
any_bytes false = refl

pub append_bytes : (s t : Sequence) → sequence_bytes (append s t) ≡ sequence_bytes s ++ sequence_bytes t
append_bytes nothing t = refl
append_bytes (next first more) t =
    ap (λ (b : List ℕ). repetition_bytes first ++ b) (append_bytes more t) ∙ sym (append_assoc (repetition_bytes first) (sequence_bytes more) (sequence_bytes t))

pub around_bytes : (opens closes : Bool) (part : Repetition) (text : List ℕ) → repetition_bytes part ≡ text → sequence_bytes (around_part opens part closes) ≡ around opens text closes
around_bytes opens closes part text is =
    append_bytes (any_sequence opens) (next part (any_sequence closes))
    ∙ ap₂ (λ (a b : List ℕ). a ++ b) (any_bytes opens) (ap₂ (λ (a b : List ℕ). a ++ b) is (any_bytes closes))

join_bytes : (a b : Alternatives) → alternatives_bytes (join_alternatives a b) ≡ alternatives_bytes a ++ 124 ∷ alternatives_bytes b
join_bytes (single s) b = refl
join_bytes (or s more) b =
    ap (λ (t : List ℕ). sequence_bytes s ++ 124 ∷ t) (join_bytes more b)
    ∙ sym (append_assoc (sequence_bytes s) (124 ∷ alternatives_bytes more) (124 ∷ alternatives_bytes b))

-- ---- repeats

counts_bytes : (low high : ℕ) → suffix_bytes (counts_suffix low high) ≡ count_written low high
counts_bytes low high = by (eqb low high)
  where
    by : (b : Bool) → suffix_bytes (cond b (exactly (decimal low)) (between (decimal low) (decimal high))) ≡ 123 ∷ (decimal low ++ (cond b [] (44 ∷ decimal high) ++ 125 ∷ []))
    by true = refl
    by false = refl

repeated_bytes : (repeats : Repeats) (part : Repetition) (text : List ℕ) → repetition_bytes part ≡ text → repetition_bytes (repeated_part repeats part) ≡ repeated_written repeats text
repeated_bytes Any part text is = ap (λ (t : List ℕ). t ++ 42 ∷ []) is
repeated_bytes More part text is = ap (λ (t : List ℕ). t ++ 43 ∷ []) is
repeated_bytes Optional part text is = ap (λ (t : List ℕ). t ++ 63 ∷ []) is
repeated_bytes (Between low high) part text is = ap₂ (λ (t c : List ℕ). t ++ c) is (counts_bytes low high)
repeated_bytes (AtLeast low) part text is =
    ap (λ (t : List ℕ). 40 ∷ t)
    (whole (repetition_bytes part) (suffix_bytes (counts_suffix low low))
    ∙ ap₂ (λ (t c : List ℕ). t ++ (c ++ (t ++ 42 ∷ 41 ∷ []))) is (counts_bytes low low))
  where
    whole : (p c : List ℕ) → ((p ++ c) ++ ((p ++ 42 ∷ []) ++ [])) ++ 41 ∷ [] ≡ p ++ (c ++ (p ++ 42 ∷ 41 ∷ []))
    whole p c = simp (append_assoc, append-nil)

-- ---- expressions

as_bytes : (opens closes : Bool) (e : Expression) → is_alternated e ≡ false → sequence_bytes (as_sequence (pattern_tree opens closes e)) ≡ alternatives_bytes (pattern_tree opens closes e)
as_bytes opens closes blank is = refl
as_bytes opens closes (symbol byte) is = refl
as_bytes opens closes period is = refl
as_bytes opens closes (bracketed negated first others) is = refl
as_bytes opens closes begin is = refl
as_bytes opens closes end is = refl
as_bytes opens closes (subexpression inner) is = refl
as_bytes opens closes (duplicated part repeats) is = refl
as_bytes opens closes (concatenated first second) is = refl
as_bytes opens closes (alternated first second) is = absurd (true≢false is)

pub record Formed (first second : Expression) : Type 0 where
  pub first_formed : is_formed first ≡ true
  pub second_formed : is_formed second ≡ true
  pub first_branch : is_alternated first ≡ false
  pub second_branch : is_alternated second ≡ false

pub formed_both : (first second : Expression) → is_formed (concatenated first second) ≡ true → Formed first second
formed_both first second formed =
    let f = and_parts (is_formed first) (is_formed second && (not (is_alternated first) && not (is_alternated second))) formed in
    let g = and_parts (is_formed second) (not (is_alternated first) && not (is_alternated second)) f.1 in
    let n = and_parts (not (is_alternated first)) (not (is_alternated second)) g.1 in
    record { first_formed = f.0; second_formed = g.0; first_branch = not_is (is_alternated first) n.0; second_branch = not_is (is_alternated second) n.1 }
  where
    not_is : (b : Bool) → not b ≡ true → b ≡ false
    not_is true h = absurd (false≢true h)
    not_is false h = refl

mutual
  pub tree_bytes : (opens closes : Bool) (e : Expression) → is_formed e ≡ true → alternatives_bytes (pattern_tree opens closes e) ≡ written opens closes e
  tree_bytes opens closes blank formed = any_bytes (opens || closes)
  tree_bytes opens closes (symbol byte) formed = around_bytes opens closes (once (symbol_atom byte)) (symbol_written byte) (symbol_bytes byte)
  tree_bytes opens closes period formed = around_bytes opens closes (once dot) (46 ∷ []) refl
  tree_bytes opens closes (bracketed negated first others) formed =
      around_bytes opens closes (once (bracket negated (item_of first) (items_of others))) (class_written negated first others) (bracket_is negated first others)
  tree_bytes opens closes begin formed = any_bytes closes
  tree_bytes opens closes end formed = any_bytes opens
  tree_bytes opens closes (subexpression inner) formed =
      around_bytes (opens && not (has_begin inner)) (closes && not (has_end inner)) (in_parentheses (pattern_tree (opens && has_begin inner) (closes && has_end inner) inner))
      (40 ∷ (written (opens && has_begin inner) (closes && has_end inner) inner ++ 41 ∷ []))
      (ap (λ (t : List ℕ). 40 ∷ (t ++ 41 ∷ [])) (tree_bytes (opens && has_begin inner) (closes && has_end inner) inner formed))
  tree_bytes opens closes (duplicated part repeats) formed =
      let f = and_parts (is_formed part) (is_piece part && is_formed_count repeats) formed in
      let g = and_parts (is_piece part) (is_formed_count repeats) f.1 in
      around_bytes (opens && not (is_run part repeats)) (closes && not (is_run part repeats)) (repeated_part repeats (part_tree part)) (repeated_written repeats (written false false part))
      (repeated_bytes repeats (part_tree part) (written false false part) (part_bytes part f.0 g.0))
  tree_bytes opens closes (concatenated first second) formed =
      let said = formed_both first second formed in
      append_bytes (as_sequence (pattern_tree opens false first)) (as_sequence (pattern_tree false closes second))
      ∙ ap₂ (λ (a b : List ℕ). a ++ b) (as_bytes opens false first said.first_branch ∙ tree_bytes opens false first said.first_formed)
      (as_bytes false closes second said.second_branch ∙ tree_bytes false closes second said.second_formed)
  tree_bytes opens closes (alternated first second) formed =
      let f = and_parts (is_formed first) (is_formed second) formed in
      join_bytes (pattern_tree opens closes first) (pattern_tree opens closes second)
      ∙ ap₂ (λ (a b : List ℕ). a ++ 124 ∷ b) (tree_bytes opens closes first f.0) (tree_bytes opens closes second f.1)

  part_bytes : (e : Expression) → is_formed e ≡ true → is_piece e ≡ true → repetition_bytes (part_tree e) ≡ written false false e
  part_bytes blank formed piece = absurd (false≢true piece)
  part_bytes (symbol byte) formed piece = symbol_bytes byte ∙ sym (append-nil (symbol_written byte))
  part_bytes period formed piece = refl
  part_bytes (bracketed negated first others) formed piece = bracket_is negated first others ∙ sym (append-nil (class_written negated first others))
  part_bytes begin formed piece = absurd (false≢true piece)
  part_bytes end formed piece = absurd (false≢true piece)
  part_bytes (subexpression inner) formed piece =
      ap (λ (t : List ℕ). 40 ∷ (t ++ 41 ∷ [])) (tree_bytes false false inner formed) ∙ sym (append-nil (40 ∷ (written false false inner ++ 41 ∷ [])))
  part_bytes (duplicated part repeats) formed piece =
      let f = and_parts (is_formed part) (is_piece part && is_formed_count repeats) formed in
      let g = and_parts (is_piece part) (is_formed_count repeats) f.1 in
      repeated_bytes repeats (part_tree part) (written false false part) (part_bytes part f.0 g.0) ∙ sym (append-nil (repeated_written repeats (written false false part)))
  part_bytes (concatenated first second) formed piece = absurd (false≢true piece)
  part_bytes (alternated first second) formed piece = absurd (false≢true piece)

-- a branch is one sequence
pub branch_bytes : (opens closes : Bool) (e : Expression) → is_formed e ≡ true → is_alternated e ≡ false → sequence_bytes (as_sequence (pattern_tree opens closes e)) ≡ written opens closes e
branch_bytes opens closes e formed branch = as_bytes opens closes e branch ∙ tree_bytes opens closes e formed
