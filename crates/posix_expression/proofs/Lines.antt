-- The pattern of a command's lines holds a line exactly if the expression finds something in it.
use Rattle.std.proofs.Common.{◌≡◌, ◌⊎◌, ◌↔◌, ℕ, Bool, true, false, cond, List, [], ◌∷◌, ◌++◌, Result, Ok, IsOk, refl, sym, ap, ap₂, subst, ◌∙◌, inl, inr, append_assoc, append-nil}
use Rattle.std.proofs.lemmas.Bool.{and_parts, and_from, true≢false}
use Rattle.basics.specs.Symbol.{is_symbol, is_text}
use Rattle.pol_pattern.specs.declared.version.Version.TheVariants.{Two}
use Rattle.pol_pattern.specs.Flat.{group, empty, Terms, none, alt}
use Rattle.pol_pattern.specs.Sets.{InTerms}
use Rattle.pol_pattern.specs.Spelling.{Sequence, Repetition, Alternatives, single, nothing, next, once, repeated, question, sequence_bytes, alternatives_terms, repetition_factors, is_right_sequence, is_right_repetition, Holds}
use Rattle.pol_pattern.specs.Reading.{reading, pattern_of}
use Rattle.pol_pattern.specs.declared.fault.PatternFault.{PatternFault}
use Rattle.pol_pattern.proofs.Steps.{done, ok_is, bind_ok}
use Rattle.pol_pattern.specs.Languages.{IsPattern}
use Rattle.pol_pattern.proofs.Held.{holds_in, in_holds, pattern_by}
use Rattle.posix_expression.specs.Syntax.{Expression, is_formed, is_edged, is_said}
use Rattle.posix_expression.specs.Finding.{Finds, FindsInLine}
use Rattle.posix_expression.specs.Writing.{is_optional, symbols_written, arguments_written, line_written}
use Rattle.posix_expression.proofs.PatternSets.{InSequence, append, in_append, append_in, in_next, next_in, one_in, in_one, in_parentheses, in_group, group_in, in_single, single_in}
use Rattle.posix_expression.proofs.PatternTrees.{symbol_atom}
use Rattle.posix_expression.proofs.Texts.{text_parts}
use Rattle.posix_expression.proofs.Parts.{in_symbol, symbol_in}
use Rattle.posix_expression.proofs.Spelling.{symbol_bytes, append_bytes}
use Rattle.posix_expression.proofs.Right.{symbol_right, append_right, next_right}
use Rattle.posix_expression.proofs.Whole.{arguments_tree, arguments_bytes, arguments_right, in_arguments, arguments_in, optional_law}

-- ---- a command's name

symbols_tree : List ℕ → Sequence
symbols_tree [] = nothing
symbols_tree (byte ∷ bytes) = next (once (symbol_atom byte)) (symbols_tree bytes)

symbols_bytes : (name : List ℕ) → sequence_bytes (symbols_tree name) ≡ symbols_written name
unfolding symbols_tree
symbols_bytes [] = refl
symbols_bytes (byte ∷ bytes) = ap₂ (λ (a b : List ℕ). a ++ b) (symbol_bytes byte) (symbols_bytes bytes)

symbols_right : (name : List ℕ) → is_text name ≡ true → is_right_sequence Two (symbols_tree name) ≡ true
unfolding symbols_tree
symbols_right [] texts = refl
symbols_right (byte ∷ bytes) texts =
    let parts = and_parts (is_symbol byte) (is_text bytes) texts in
    next_right (once (symbol_atom byte)) (symbols_tree bytes) (symbol_right byte parts.0) (symbols_right bytes parts.1)

in_symbols : (name text : List ℕ) → InSequence (symbols_tree name) text → text ≡ name
unfolding symbols_tree
in_symbols [] text h = h
in_symbols (byte ∷ bytes) text h =
    let parts = in_next (once (symbol_atom byte)) (symbols_tree bytes) text h in
    parts.2 ∙ ap₂ (λ (a b : List ℕ). a ++ b) (in_symbol byte parts.0 parts.3) (in_symbols bytes parts.1 parts.4)

symbols_in : (name : List ℕ) → is_text name ≡ true → InSequence (symbols_tree name) name
unfolding symbols_tree
symbols_in [] texts = refl
symbols_in (byte ∷ bytes) texts =
    let parts = and_parts (is_symbol byte) (is_text bytes) texts in
    next_in (once (symbol_atom byte)) (symbols_tree bytes) (byte ∷ bytes) (byte ∷ [], bytes, refl, symbol_in byte (byte ∷ []) parts.0 refl, symbols_in bytes parts.1)

-- ---- a blank and arguments

abbrev blank_part : Repetition
blank_part = once (symbol_atom 32)

abbrev after_blank : Expression → Sequence
after_blank e = next blank_part (arguments_tree e)

abbrev optional_part : Expression → Repetition
optional_part e = repeated (in_parentheses (single (after_blank e))) question

abbrev rest_tree : Bool → Expression → Sequence
rest_tree true e = next (optional_part e) nothing
rest_tree false e = after_blank e

abbrev line_tree : List ℕ → Expression → Sequence
line_tree name e = append (symbols_tree name) (rest_tree (is_optional e) e)

abbrev rest_written : Bool → List ℕ → List ℕ
rest_written true arguments = 40 ∷ 32 ∷ (arguments ++ 41 ∷ 63 ∷ [])
rest_written false arguments = 32 ∷ arguments

rest_bytes : (b : Bool) (e : Expression) → is_formed e ≡ true → sequence_bytes (rest_tree b e) ≡ rest_written b (arguments_written e)
rest_bytes true e formed =
    whole (sequence_bytes (arguments_tree e)) ∙ ap (λ (t : List ℕ). 40 ∷ 32 ∷ (t ++ 41 ∷ 63 ∷ [])) (arguments_bytes e formed)
  where
    whole : (a : List ℕ) → ((40 ∷ ((32 ∷ a) ++ 41 ∷ [])) ++ 63 ∷ []) ++ [] ≡ 40 ∷ 32 ∷ (a ++ 41 ∷ 63 ∷ [])
    whole a = append-nil (40 ∷ 32 ∷ ((a ++ 41 ∷ []) ++ 63 ∷ [])) ∙ ap (λ (t : List ℕ). 40 ∷ 32 ∷ t) (append_assoc a (41 ∷ []) (63 ∷ []))
rest_bytes false e formed = ap (λ (t : List ℕ). 32 ∷ t) (arguments_bytes e formed)

line_bytes : (name : List ℕ) (e : Expression) → is_formed e ≡ true → sequence_bytes (line_tree name e) ≡ line_written name e
unfolding line_written
line_bytes name e formed =
    append_bytes (symbols_tree name) (rest_tree (is_optional e) e)
    ∙ ap₂ (λ (a b : List ℕ). a ++ b) (symbols_bytes name) (rest_bytes (is_optional e) e formed)
    ∙ by (is_optional e)
  where
    by : (b : Bool) → symbols_written name ++ rest_written b (arguments_written e)
        ≡ cond b (symbols_written name ++ 40 ∷ 32 ∷ (arguments_written e ++ 41 ∷ 63 ∷ [])) (symbols_written name ++ 32 ∷ arguments_written e)
    by true = refl
    by false = refl

after_right : (e : Expression) → is_formed e ≡ true → is_right_sequence Two (after_blank e) ≡ true
after_right e formed = next_right blank_part (arguments_tree e) (symbol_right 32 refl) (arguments_right e formed)

rest_right : (b : Bool) (e : Expression) → is_formed e ≡ true → is_right_sequence Two (rest_tree b e) ≡ true
rest_right true e formed =
    next_right (optional_part e) nothing
    (and_from (is_right_repetition Two (in_parentheses (single (after_blank e)))) true (after_right e formed) refl) refl
rest_right false e formed = after_right e formed

-- ---- what a line's pattern holds

in_after : (e : Expression) → is_formed e ≡ true → is_edged e ≡ true → (text : List ℕ) → InSequence (after_blank e) text → (arguments : List ℕ) × (text ≡ 32 ∷ arguments) × Finds e arguments
in_after e formed edged text h =
    let parts = in_next blank_part (arguments_tree e) text h in
    (parts.1, parts.2 ∙ ap (λ (t : List ℕ). t ++ parts.1) (in_symbol 32 parts.0 parts.3), in_arguments e formed edged parts.1 parts.4)

after_in : (e : Expression) → is_formed e ≡ true → is_edged e ≡ true → (arguments : List ℕ) → is_text arguments ≡ true → Finds e arguments → InSequence (after_blank e) (32 ∷ arguments)
after_in e formed edged arguments texts found =
    next_in blank_part (arguments_tree e) (32 ∷ arguments)
    (32 ∷ [], arguments, refl, symbol_in 32 (32 ∷ []) refl refl, arguments_in e formed edged arguments texts found)

in_rest : (b : Bool) (e : Expression) → is_formed e ≡ true → is_edged e ≡ true → is_optional e ≡ b → (text : List ℕ) → InSequence (rest_tree b e) text
    → ((text ≡ []) × Finds e []) ⊎ ((arguments : List ℕ) × (text ≡ 32 ∷ arguments) × Finds e arguments)
in_rest false e formed edged is text h = inr (in_after e formed edged text h)
in_rest true e formed edged is text h =
    let parts = in_next (optional_part e) nothing text h in
    let same : text ≡ parts.0 = parts.2 ∙ ap (λ (t : List ℕ). parts.0 ++ t) parts.4 ∙ append-nil parts.0 in
    by parts.0 same (one_in (group (alt (repetition_factors (in_parentheses (single (after_blank e)))) (alt empty none))) parts.0 parts.3)
  where
    by : (t : List ℕ) → text ≡ t → InTerms (alt (repetition_factors (in_parentheses (single (after_blank e)))) (alt empty none)) t
        → ((text ≡ []) × Finds e []) ⊎ ((arguments : List ℕ) × (text ≡ 32 ∷ arguments) × Finds e arguments)
    by t same (inl held) =
        let found = in_after e formed edged t (in_single (after_blank e) t (in_group (single (after_blank e)) t held)) in
        inr (found.0, same ∙ found.1, found.2)
    by t same (inr (inl nil)) = inl (same ∙ nil, (optional_law e formed).0 is)
    by t same (inr (inr never)) = absurd never

rest_in : (b : Bool) (e : Expression) → is_formed e ≡ true → is_edged e ≡ true → is_optional e ≡ b → (text : List ℕ) → is_text text ≡ true
    → ((text ≡ []) × Finds e []) ⊎ ((arguments : List ℕ) × (text ≡ 32 ∷ arguments) × Finds e arguments) → InSequence (rest_tree b e) text
rest_in false e formed edged is text texts (inl (nil, found)) = absurd (true≢false (sym ((optional_law e formed).1 found) ∙ is))
rest_in false e formed edged is text texts (inr (arguments, whole, found)) =
    let here = (and_parts (is_symbol 32) (is_text arguments) (ap is_text (sym whole) ∙ texts)).1 in
    subst (InSequence (after_blank e)) (sym whole) (after_in e formed edged arguments here found)
rest_in true e formed edged is text texts (inl (nil, found)) =
    next_in (optional_part e) nothing text
    (text, [], sym (append-nil text), in_one (group (alt (repetition_factors (in_parentheses (single (after_blank e)))) (alt empty none))) text (inr (inl nil)), refl)
rest_in true e formed edged is text texts (inr (arguments, whole, found)) =
    let here = (and_parts (is_symbol 32) (is_text arguments) (ap is_text (sym whole) ∙ texts)).1 in
    let held : InSequence (after_blank e) text = subst (InSequence (after_blank e)) (sym whole) (after_in e formed edged arguments here found) in
    next_in (optional_part e) nothing text (
      text,
      [],
      sym (append-nil text),
      in_one (group (alt (repetition_factors (in_parentheses (single (after_blank e)))) (alt empty none))) text
          (inl (group_in (single (after_blank e)) text (single_in (after_blank e) text held))),
      refl,
    )

in_line : (name : List ℕ) (e : Expression) → is_formed e ≡ true → is_edged e ≡ true → (line : List ℕ) → InSequence (line_tree name e) line → FindsInLine name e line
in_line name e formed edged line h =
    let parts = in_append (symbols_tree name) (rest_tree (is_optional e) e) line h in
    let same : line ≡ name ++ parts.1 = parts.2 ∙ ap (λ (t : List ℕ). t ++ parts.1) (in_symbols name parts.0 parts.3) in
    elim (in_rest (is_optional e) e formed edged refl parts.1 parts.4) [
      | inl bare ↦ inl (same ∙ ap (λ (t : List ℕ). name ++ t) bare.0 ∙ append-nil name, bare.1)
      | inr more ↦ inr (more.0, same ∙ ap (λ (t : List ℕ). name ++ t) more.1, more.2)
    ]

line_in : (name : List ℕ) (e : Expression) → is_text name ≡ true → is_formed e ≡ true → is_edged e ≡ true → (line : List ℕ) → is_text line ≡ true → FindsInLine name e line → InSequence (line_tree name e) line
line_in name e named formed edged line texts (inl (whole, found)) =
    append_in (symbols_tree name) (rest_tree (is_optional e) e) line
    (name, [], whole ∙ sym (append-nil name), symbols_in name named, rest_in (is_optional e) e formed edged refl [] refl (inl (refl, found)))
line_in name e named formed edged line texts (inr (arguments, whole, found)) =
    let here = (text_parts name (32 ∷ arguments) (ap is_text (sym whole) ∙ texts)).1 in
    append_in (symbols_tree name) (rest_tree (is_optional e) e) line
    (name, 32 ∷ arguments, whole, symbols_in name named, rest_in (is_optional e) e formed edged refl (32 ∷ arguments) here (inr (arguments, refl, found)))

pub line_law : (name : List ℕ) (e : Expression) → is_text name ≡ true → is_said e ≡ true → IsPattern (line_written name e) → (line : List ℕ) → is_text line ≡ true
    → Holds (line_written name e) line ↔ FindsInLine name e line
line_law name e named said whole line texts =
    let parts = and_parts (is_formed e) (is_edged e) said in
    let tree : Alternatives = single (line_tree name e) in
    let right = append_right (symbols_tree name) (rest_tree (is_optional e) e) (symbols_right name named) (rest_right (is_optional e) e parts.0) in
    let read : reading (line_written name e) ≡ Ok (alternatives_terms tree) = pattern_by (line_written name e) tree whole right (line_bytes name e parts.0) in (
      (λ held. in_line name e parts.0 parts.1 line (in_single (line_tree name e) line (holds_in (line_written name e) line (alternatives_terms tree) read held))),
      (λ found. in_holds (line_written name e) line (alternatives_terms tree) read (single_in (line_tree name e) line (line_in name e named parts.0 parts.1 line texts found))),
    )

-- what is read as a pattern is one, and seen by its source
pattern_is : (source pattern : List ℕ) → pattern_of source ≡ done pattern → (pattern ≡ source) × IsPattern source
unfolding pattern_of
pattern_is source pattern is =
    let parts = bind_ok (reading source) (λ flat. done source) pattern is in
    (sym (ok_is source pattern parts.2), subst (λ (r : Result Terms PatternFault). IsOk r) (sym parts.1) refl)

pub pattern_lines : (name : List ℕ) (e : Expression) (source pattern : List ℕ) → is_text name ≡ true → is_said e ≡ true → source ≡ line_written name e → pattern_of source ≡ done pattern
    → (line : List ℕ) → is_text line ≡ true → Holds pattern line ↔ FindsInLine name e line
pattern_lines name e source pattern named said written read line texts =
    let is = pattern_is source pattern read in
    let same : pattern ≡ line_written name e = is.0 ∙ written in
    subst (λ (p : List ℕ). Holds p line ↔ FindsInLine name e line) (sym same)
    (line_law name e named said (subst IsPattern written is.1) line texts)
