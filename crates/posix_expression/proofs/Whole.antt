-- The pattern of a whole expression holds arguments exactly if the expression finds something in them.
use Rattle.std.proofs.Common.{◌≡◌, ◌⊎◌, ◌↔◌, ℕ, zero, suc, Bool, true, false, ◌&&◌, ◌||◌, not, cond, Option, Some, None, List, [], ◌∷◌, ◌++◌, length, refl, sym, ap, ap₂, subst, ◌∙◌, inl, inr, append-nil, arith}
use Rattle.std.specs.Bool.{beq}
use Rattle.std.proofs.lemmas.Bool.{and_parts, and_from, or_cases, or_parts, or_left, or_right, not-true, true≢false, false≢true, eqb-true, eq-eqb, leb-true}
use Rattle.basics.specs.Symbol.{is_text}
use Rattle.pol_pattern.specs.declared.version.Version.TheVariants.{Two}
use Rattle.pol_pattern.specs.Spelling.{Sequence, nothing, next, alternatives_bytes, sequence_bytes, is_right_sequence, is_right_repetition}
use Rattle.posix_expression.specs.declared.tree.Repeats.{Repeats}
use Rattle.posix_expression.specs.declared.tree.Repeats.TheVariants.{Any, More, Optional, Between, AtLeast}
use Rattle.posix_expression.specs.Syntax.{Expression, blank, symbol, period, bracketed, begin, end, subexpression, duplicated, concatenated, alternated, has_begin, has_end, is_begin, is_end, is_alternated, is_formed, is_formed_count, is_edged, is_piece}
use Rattle.posix_expression.specs.Finding.{Allows, Times, Matches, Finds}
use Rattle.posix_expression.specs.Writing.{written, is_star, are_stars, has_repeats, begins, ends, is_open, is_everything, allows_none, is_optional, has_inner_begin, has_inner_end, if_same, branch_edges, edges_of, alternatives_written, some_written, arguments_written}
use Rattle.posix_expression.proofs.PatternSets.{InSequence, in_parentheses, in_group, group_in, as_sequence, in_sequence, sequence_in, in_next, next_in}
use Rattle.posix_expression.proofs.PatternTrees.{any_sequence, around_part, pattern_tree}
use Rattle.posix_expression.proofs.Texts.{text_parts, Stands, stands_any, in_around, around_in}
use Rattle.posix_expression.proofs.Fits.{shift_begin, shift_end}
use Rattle.posix_expression.proofs.Law.{Edge, to_edge, of_edge}
use Rattle.posix_expression.proofs.Spelling.{tree_bytes, branch_bytes, around_bytes}
use Rattle.posix_expression.proofs.Right.{tree_right, as_right, around_right}

edge_finds : (e : Expression) (text : List ℕ) → Edge true true e text → Finds e text
edge_finds e text d = (d.before, d.part, d.after, d.whole, d.fits)

finds_edge : (e : Expression) (text : List ℕ) → Finds e text → Edge true true e text
finds_edge e text (before, part, after, whole, fits) =
    record { before = before; part = part; after = after; whole = whole; opened = tt; closed = tt; fits = fits }

-- ---- branches that begin with a `^`, or end in a `$`

begins_has : (e : Expression) → begins e ≡ true → has_begin e ≡ true
begins_has begin is = refl
begins_has (concatenated first second) is = or_left (has_begin first) (has_begin second) (begins_has first is)
begins_has blank is = absurd (false≢true is)
begins_has (symbol byte) is = absurd (false≢true is)
begins_has period is = absurd (false≢true is)
begins_has (bracketed negated first others) is = absurd (false≢true is)
begins_has end is = absurd (false≢true is)
begins_has (subexpression inner) is = absurd (false≢true is)
begins_has (duplicated part repeats) is = absurd (false≢true is)
begins_has (alternated first second) is = absurd (false≢true is)

ends_has : (e : Expression) → ends e ≡ true → has_end e ≡ true
ends_has end is = refl
ends_has (concatenated first second) is = or_right (has_end first) (has_end second) (ends_has second is)
ends_has blank is = absurd (false≢true is)
ends_has (symbol byte) is = absurd (false≢true is)
ends_has period is = absurd (false≢true is)
ends_has (bracketed negated first others) is = absurd (false≢true is)
ends_has begin is = absurd (false≢true is)
ends_has (subexpression inner) is = absurd (false≢true is)
ends_has (duplicated part repeats) is = absurd (false≢true is)
ends_has (alternated first second) is = absurd (false≢true is)

-- an anchor alone
begin_alone : (e : Expression) → is_begin e ≡ true → e ≡ begin
begin_alone begin is = refl
begin_alone blank is = absurd (false≢true is)
begin_alone (symbol byte) is = absurd (false≢true is)
begin_alone period is = absurd (false≢true is)
begin_alone (bracketed negated first others) is = absurd (false≢true is)
begin_alone end is = absurd (false≢true is)
begin_alone (subexpression inner) is = absurd (false≢true is)
begin_alone (duplicated part repeats) is = absurd (false≢true is)
begin_alone (concatenated first second) is = absurd (false≢true is)
begin_alone (alternated first second) is = absurd (false≢true is)

end_alone : (e : Expression) → is_end e ≡ true → e ≡ end
end_alone end is = refl
end_alone blank is = absurd (false≢true is)
end_alone (symbol byte) is = absurd (false≢true is)
end_alone period is = absurd (false≢true is)
end_alone (bracketed negated first others) is = absurd (false≢true is)
end_alone begin is = absurd (false≢true is)
end_alone (subexpression inner) is = absurd (false≢true is)
end_alone (duplicated part repeats) is = absurd (false≢true is)
end_alone (concatenated first second) is = absurd (false≢true is)
end_alone (alternated first second) is = absurd (false≢true is)

begins_forces : (e : Expression) → begins e ≡ true → (before text after : List ℕ) → Matches e before text after → before ≡ []
begins_forces begin is before text after h = h.1
begins_forces (concatenated first second) is before text after (front, back, whole, one, two) = begins_forces first is before front (back ++ after) one
begins_forces blank is before text after h = absurd (false≢true is)
begins_forces (symbol byte) is before text after h = absurd (false≢true is)
begins_forces period is before text after h = absurd (false≢true is)
begins_forces (bracketed negated first others) is before text after h = absurd (false≢true is)
begins_forces end is before text after h = absurd (false≢true is)
begins_forces (subexpression inner) is before text after h = absurd (false≢true is)
begins_forces (duplicated part repeats) is before text after h = absurd (false≢true is)
begins_forces (alternated first second) is before text after h = absurd (false≢true is)

ends_forces : (e : Expression) → ends e ≡ true → (before text after : List ℕ) → Matches e before text after → after ≡ []
ends_forces end is before text after h = h.1
ends_forces (concatenated first second) is before text after (front, back, whole, one, two) = ends_forces second is (before ++ front) back after two
ends_forces blank is before text after h = absurd (false≢true is)
ends_forces (symbol byte) is before text after h = absurd (false≢true is)
ends_forces period is before text after h = absurd (false≢true is)
ends_forces (bracketed negated first others) is before text after h = absurd (false≢true is)
ends_forces begin is before text after h = absurd (false≢true is)
ends_forces (subexpression inner) is before text after h = absurd (false≢true is)
ends_forces (duplicated part repeats) is before text after h = absurd (false≢true is)
ends_forces (alternated first second) is before text after h = absurd (false≢true is)

record Edged (first second : Expression) : Type 0 where
  first_edged : is_edged first ≡ true
  second_edged : is_edged second ≡ true
  begins_so : (is_begin first ≡ true) ⊎ (has_begin second ≡ false)
  ends_so : (is_end second ≡ true) ⊎ (has_end first ≡ false)

edged_both : (first second : Expression) → is_edged (concatenated first second) ≡ true → Edged first second
edged_both first second edged =
    let e = and_parts (is_edged first) (is_edged second && ((is_begin first || not (has_begin second)) && (is_end second || not (has_end first)))) edged in
    let d = and_parts (is_edged second) ((is_begin first || not (has_begin second)) && (is_end second || not (has_end first))) e.1 in
    let a = and_parts (is_begin first || not (has_begin second)) (is_end second || not (has_end first)) d.1 in
    record { first_edged = e.0; second_edged = d.0; begins_so = or_not (is_begin first) (has_begin second) a.0; ends_so = or_not (is_end second) (has_end first) a.1 }
  where
    or_not : (a b : Bool) → (a || not b) ≡ true → (a ≡ true) ⊎ (b ≡ false)
    or_not true b h = inl refl
    or_not false b h = inr (not-true b h)

-- a branch that doesn't begin with a `^` has no other
no_begin : (e : Expression) → is_edged e ≡ true → begins e ≡ false → has_inner_begin e ≡ false → has_begin e ≡ false
no_begin begin edged is inner = absurd (true≢false is)
no_begin (concatenated first second) edged is inner =
    let said = edged_both first second edged in
    let parts = or_parts (has_inner_begin first) (has_inner_begin second) inner in
    let one : has_begin first ≡ false = no_begin first said.first_edged is parts.0 in
    let two : has_begin second ≡ false =
    elim said.begins_so [
      | inl alone ↦ absurd (true≢false (sym (ap begins (begin_alone first alone)) ∙ is))
      | inr none ↦ none
    ] in
    ap₂ (λ (a b : Bool). a || b) one two
no_begin blank edged is inner = inner
no_begin (symbol byte) edged is inner = inner
no_begin period edged is inner = inner
no_begin (bracketed negated first others) edged is inner = inner
no_begin end edged is inner = inner
no_begin (subexpression e) edged is inner = inner
no_begin (duplicated part repeats) edged is inner = inner
no_begin (alternated first second) edged is inner = inner

no_end : (e : Expression) → is_edged e ≡ true → ends e ≡ false → has_inner_end e ≡ false → has_end e ≡ false
no_end end edged is inner = absurd (true≢false is)
no_end (concatenated first second) edged is inner =
    let said = edged_both first second edged in
    let parts = or_parts (has_inner_end first) (has_inner_end second) inner in
    let two : has_end second ≡ false = no_end second said.second_edged is parts.1 in
    let one : has_end first ≡ false =
    elim said.ends_so [
      | inl alone ↦ absurd (true≢false (sym (ap ends (end_alone second alone)) ∙ is))
      | inr none ↦ none
    ] in
    ap₂ (λ (a b : Bool). a || b) one two
no_end blank edged is inner = inner
no_end (symbol byte) edged is inner = inner
no_end period edged is inner = inner
no_end (bracketed negated first others) edged is inner = inner
no_end begin edged is inner = inner
no_end (subexpression e) edged is inner = inner
no_end (duplicated part repeats) edged is inner = inner
no_end (alternated first second) edged is inner = inner

-- ---- what is found in any text

nil_times : (fit : List ℕ → List ℕ → List ℕ → Type 0) (before after : List ℕ) → Times fit 0 before [] after
unfolding Times
nil_times fit before after = refl

period_times : (text before after : List ℕ) → Times (Matches period) (length text) before text after
unfolding Times
period_times [] before after = refl
period_times (byte ∷ text) before after = (byte ∷ [], text, refl, (byte, refl), period_times text (before ++ byte ∷ []) after)

star_nil : (part : Expression) (repeats : Repeats) → is_star part repeats ≡ true → (before after : List ℕ) → Matches (duplicated part repeats) before [] after
star_nil period Any is before after = (0, tt, nil_times (Matches period) before after)
star_nil period More is before after = absurd (false≢true is)
star_nil period Optional is before after = absurd (false≢true is)
star_nil period (Between low high) is before after = absurd (false≢true is)
star_nil period (AtLeast low) is before after = absurd (false≢true is)
star_nil blank repeats is before after = absurd (false≢true is)
star_nil (symbol byte) repeats is before after = absurd (false≢true is)
star_nil (bracketed negated first others) repeats is before after = absurd (false≢true is)
star_nil begin repeats is before after = absurd (false≢true is)
star_nil end repeats is before after = absurd (false≢true is)
star_nil (subexpression inner) repeats is before after = absurd (false≢true is)
star_nil (duplicated part other) repeats is before after = absurd (false≢true is)
star_nil (concatenated first second) repeats is before after = absurd (false≢true is)
star_nil (alternated first second) repeats is before after = absurd (false≢true is)

star_all : (part : Expression) (repeats : Repeats) → is_star part repeats ≡ true → (text before after : List ℕ) → Matches (duplicated part repeats) before text after
star_all period Any is text before after = (length text, tt, period_times text before after)
star_all period More is text before after = absurd (false≢true is)
star_all period Optional is text before after = absurd (false≢true is)
star_all period (Between low high) is text before after = absurd (false≢true is)
star_all period (AtLeast low) is text before after = absurd (false≢true is)
star_all blank repeats is text before after = absurd (false≢true is)
star_all (symbol byte) repeats is text before after = absurd (false≢true is)
star_all (bracketed negated first others) repeats is text before after = absurd (false≢true is)
star_all begin repeats is text before after = absurd (false≢true is)
star_all end repeats is text before after = absurd (false≢true is)
star_all (subexpression inner) repeats is text before after = absurd (false≢true is)
star_all (duplicated part other) repeats is text before after = absurd (false≢true is)
star_all (concatenated first second) repeats is text before after = absurd (false≢true is)
star_all (alternated first second) repeats is text before after = absurd (false≢true is)

begins_first : (first second : Expression) → Edged first second → begins second ≡ true → is_begin first ≡ true
begins_first first second said is =
    elim said.begins_so [
      | inl alone ↦ alone
      | inr none ↦ absurd (true≢false (sym (begins_has second is) ∙ none))
    ]

ends_second : (first second : Expression) → Edged first second → ends first ≡ true → is_end second ≡ true
ends_second first second said is =
    elim said.ends_so [
      | inl alone ↦ alone
      | inr none ↦ absurd (true≢false (sym (ends_has first is) ∙ none))
    ]

stars_nil : (e : Expression) → is_edged e ≡ true → are_stars e ≡ true → (before after : List ℕ) → (begins e ≡ true → before ≡ []) → (ends e ≡ true → after ≡ []) → Matches e before [] after
stars_nil blank edged stars before after b n = refl
stars_nil begin edged stars before after b n = (refl, b refl)
stars_nil end edged stars before after b n = (refl, n refl)
stars_nil (duplicated part repeats) edged stars before after b n = star_nil part repeats stars before after
stars_nil (concatenated first second) edged stars before after b n =
    let said = edged_both first second edged in
    let parts = and_parts (are_stars first) (are_stars second) stars in (
      [],
      [],
      refl,
      stars_nil first said.first_edged parts.0 before after b
          (λ is. n (ap ends (end_alone second (ends_second first second said is)))),
      stars_nil second said.second_edged parts.1 (before ++ []) after
          (λ is. append-nil before ∙ b (ap begins (begin_alone first (begins_first first second said is)))) n,
    )
stars_nil (symbol byte) edged stars before after b n = absurd (false≢true stars)
stars_nil period edged stars before after b n = absurd (false≢true stars)
stars_nil (bracketed negated first others) edged stars before after b n = absurd (false≢true stars)
stars_nil (subexpression inner) edged stars before after b n = absurd (false≢true stars)
stars_nil (alternated first second) edged stars before after b n = absurd (false≢true stars)

stars_all : (e : Expression) → is_edged e ≡ true → are_stars e ≡ true → has_repeats e ≡ true → (text : List ℕ) → Matches e [] text []
stars_all (duplicated part repeats) edged stars some text = star_all part repeats stars text [] []
stars_all (concatenated first second) edged stars some text =
    let said = edged_both first second edged in
    let parts = and_parts (are_stars first) (are_stars second) stars in
    elim (or_cases (has_repeats first) (has_repeats second) some) [
      | inl here ↦ (
        text,
        [],
        sym (append-nil text),
        stars_all first said.first_edged parts.0 here text,
        stars_nil second said.second_edged parts.1 text []
            (λ is. absurd (false≢true (sym (ap has_repeats (begin_alone first (begins_first first second said is))) ∙ here)))
            (λ is. refl),
      )
      | inr here ↦ (
        [],
        text,
        refl,
        stars_nil first said.first_edged parts.0 [] (text ++ []) (λ is. refl)
            (λ is. absurd (false≢true (sym (ap has_repeats (end_alone second (ends_second first second said is))) ∙ here))),
        stars_all second said.second_edged parts.1 here text,
      )
    ]
stars_all blank edged stars some text = absurd (false≢true some)
stars_all begin edged stars some text = absurd (false≢true some)
stars_all end edged stars some text = absurd (false≢true some)
stars_all (symbol byte) edged stars some text = absurd (false≢true some)
stars_all period edged stars some text = absurd (false≢true some)
stars_all (bracketed negated first others) edged stars some text = absurd (false≢true some)
stars_all (subexpression inner) edged stars some text = absurd (false≢true some)
stars_all (alternated first second) edged stars some text = absurd (false≢true some)

open_finds : (e : Expression) → is_edged e ≡ true → is_open e ≡ true → (text : List ℕ) → Finds e text
open_finds e edged is text =
    let parts = and_parts (are_stars e) (has_repeats e || not (begins e && ends e)) is in
    elim (or_cases (has_repeats e) (not (begins e && ends e)) parts.1) [
      | inl some ↦ ([], text, [], sym (append-nil text), stars_all e edged parts.0 some text)
      | inr apart ↦ by (begins e) (ends e) refl refl parts.0 apart
    ]
  where
    by : (b n : Bool) → begins e ≡ b → ends e ≡ n → are_stars e ≡ true → not (b && n) ≡ true → Finds e text
    by true true hb hn stars apart = absurd (false≢true apart)
    by true false hb hn stars apart = ([], [], text, refl, stars_nil e edged stars [] text (λ is. refl) (λ is. absurd (true≢false (sym is ∙ hn))))
    by false n hb hn stars apart = (text, [], [], sym (append-nil text), stars_nil e edged stars text [] (λ is. absurd (true≢false (sym is ∙ hb))) (λ is. refl))

finds_either : (first second : Expression) (text : List ℕ) → Finds first text ⊎ Finds second text → Finds (alternated first second) text
finds_either first second text (inl (before, part, after, whole, h)) = (before, part, after, whole, inl h)
finds_either first second text (inr (before, part, after, whole, h)) = (before, part, after, whole, inr h)

either_finds : (first second : Expression) (text : List ℕ) → Finds (alternated first second) text → Finds first text ⊎ Finds second text
either_finds first second text (before, part, after, whole, inl h) = inl (before, part, after, whole, h)
either_finds first second text (before, part, after, whole, inr h) = inr (before, part, after, whole, h)

-- it finds something where one of both does
pub either_law : (first second : Expression) (text : List ℕ) → Finds (alternated first second) text ↔ (Finds first text ⊎ Finds second text)
either_law first second text = (either_finds first second text, finds_either first second text)

pub everything_finds : (e : Expression) → is_edged e ≡ true → is_everything e ≡ true → (text : List ℕ) → Finds e text
everything_finds (alternated first second) edged is text =
    let parts = and_parts (is_edged first) (is_edged second) edged in
    finds_either first second text
    (elim (or_cases (is_everything first) (is_everything second) is) [
      | inl one ↦ inl (everything_finds first parts.0 one text)
      | inr two ↦ inr (everything_finds second parts.1 two text)
    ])
everything_finds blank edged is text = open_finds blank edged is text
everything_finds (symbol byte) edged is text = open_finds (symbol byte) edged is text
everything_finds period edged is text = open_finds period edged is text
everything_finds (bracketed negated first others) edged is text = open_finds (bracketed negated first others) edged is text
everything_finds begin edged is text = open_finds begin edged is text
everything_finds end edged is text = open_finds end edged is text
everything_finds (subexpression inner) edged is text = open_finds (subexpression inner) edged is text
everything_finds (duplicated part repeats) edged is text = open_finds (duplicated part repeats) edged is text
everything_finds (concatenated first second) edged is text = open_finds (concatenated first second) edged is text

-- ---- alternatives that are anchored alike

-- all are anchored at the beginning, or none is
abbrev BeginsAlike : Bool → Expression → Type 0
BeginsAlike true e = (before text after : List ℕ) → Matches e before text after → before ≡ []
BeginsAlike false e = has_begin e ≡ false

abbrev EndsAlike : Bool → Expression → Type 0
EndsAlike true e = (before text after : List ℕ) → Matches e before text after → after ≡ []
EndsAlike false e = has_end e ≡ false

beq_is : (a b : Bool) → beq a b ≡ true → a ≡ b
beq_is true true h = refl
beq_is true false h = absurd (false≢true h)
beq_is false true h = absurd (false≢true h)
beq_is false false h = refl

abbrev edges_some : Bool × Bool → Option (Bool × Bool)
edges_some edges = Some edges

same_parts : (p q : Option (Bool × Bool)) (edges : Bool × Bool) → if_same p q ≡ edges_some edges → (p ≡ edges_some edges) × (q ≡ edges_some edges)
same_parts None q edges h = absurd cc
same_parts (Some a) None edges h = absurd cc
same_parts (Some a) (Some b) edges h = by (beq a.0 b.0 && beq a.1 b.1) refl h
  where
    by : (t : Bool) → (beq a.0 b.0 && beq a.1 b.1) ≡ t → cond t (edges_some a) None ≡ edges_some edges → (edges_some a ≡ edges_some edges) × (edges_some b ≡ edges_some edges)
    by false e i = absurd cc
    by true e i =
        let parts = and_parts (beq a.0 b.0) (beq a.1 b.1) e in
        let same : a ≡ b = ap₂ (λ (x y : Bool). let p : Bool × Bool = (x, y) in p) (beq_is a.0 b.0 parts.0) (beq_is a.1 b.1 parts.1) in
        (i, ap edges_some (sym same) ∙ i)

same_edges : (a b : Bool × Bool) → edges_some a ≡ edges_some b → a ≡ b
same_edges a b h = cc

record Alike (e : Expression) (b n : Bool) : Type 0 where
  begins_alike : BeginsAlike b e
  ends_alike : EndsAlike n e

branch_alike : (e : Expression) → is_edged e ≡ true → (b n : Bool) → branch_edges e ≡ edges_some (b, n) → Alike e b n
branch_alike e edged b n h = by (has_inner_begin e) (has_inner_end e) refl refl h
  where
    begins_so : (c : Bool) → begins e ≡ c → has_inner_begin e ≡ false → BeginsAlike c e
    begins_so true is inner = begins_forces e is
    begins_so false is inner = no_begin e edged is inner

    ends_so : (c : Bool) → ends e ≡ c → has_inner_end e ≡ false → EndsAlike c e
    ends_so true is inner = ends_forces e is
    ends_so false is inner = no_end e edged is inner

    by : (i j : Bool) → has_inner_begin e ≡ i → has_inner_end e ≡ j → cond (i || j) None (edges_some (begins e, ends e)) ≡ edges_some (b, n) → Alike e b n
    by true j hi hj is = absurd cc
    by false true hi hj is = absurd cc
    by false false hi hj is =
        let pair : Bool × Bool = (begins e, ends e) in
        let wanted : Bool × Bool = (b, n) in
        let same : pair ≡ wanted = same_edges pair wanted is in
        let first : begins e ≡ b = ap (λ (p : Bool × Bool). p.0) same in
        let second : ends e ≡ n = ap (λ (p : Bool × Bool). p.1) same in
        record { begins_alike = begins_so b first hi; ends_alike = ends_so n second hj }

first_nil : (first second : Expression) → BeginsAlike true first → BeginsAlike true second → BeginsAlike true (alternated first second)
first_nil first second one two before text after (inl h) = one before text after h
first_nil first second one two before text after (inr h) = two before text after h

last_nil : (first second : Expression) → EndsAlike true first → EndsAlike true second → EndsAlike true (alternated first second)
last_nil first second one two before text after (inl h) = one before text after h
last_nil first second one two before text after (inr h) = two before text after h

begins_join : (b : Bool) (first second : Expression) → BeginsAlike b first → BeginsAlike b second → BeginsAlike b (alternated first second)
begins_join true first second one two = first_nil first second one two
begins_join false first second one two = ap₂ (λ (x y : Bool). x || y) one two

ends_join : (b : Bool) (first second : Expression) → EndsAlike b first → EndsAlike b second → EndsAlike b (alternated first second)
ends_join true first second one two = last_nil first second one two
ends_join false first second one two = ap₂ (λ (x y : Bool). x || y) one two

all_alike : (e : Expression) → is_edged e ≡ true → (b n : Bool) → edges_of e ≡ edges_some (b, n) → Alike e b n
all_alike (alternated first second) edged b n h =
    let parts = and_parts (is_edged first) (is_edged second) edged in
    let same = same_parts (edges_of first) (edges_of second) (b, n) h in
    let one = all_alike first parts.0 b n same.0 in
    let two = all_alike second parts.1 b n same.1 in
    record { begins_alike = begins_join b first second one.begins_alike two.begins_alike; ends_alike = ends_join n first second one.ends_alike two.ends_alike }
all_alike blank edged b n h = branch_alike blank edged b n h
all_alike (symbol byte) edged b n h = branch_alike (symbol byte) edged b n h
all_alike period edged b n h = branch_alike period edged b n h
all_alike (bracketed negated first others) edged b n h = branch_alike (bracketed negated first others) edged b n h
all_alike begin edged b n h = branch_alike begin edged b n h
all_alike end edged b n h = branch_alike end edged b n h
all_alike (subexpression inner) edged b n h = branch_alike (subexpression inner) edged b n h
all_alike (duplicated part repeats) edged b n h = branch_alike (duplicated part repeats) edged b n h
all_alike (concatenated first second) edged b n h = branch_alike (concatenated first second) edged b n h

-- at the edge, or anywhere
to_begin : (b : Bool) (e : Expression) → BeginsAlike b e → (before text after : List ℕ) → Stands (not b) before → Matches e [] text after → Matches e before text after
to_begin true e alike before text after stands h = subst (λ (t : List ℕ). Matches e t text after) (sym stands) h
to_begin false e alike before text after stands h = shift_begin e alike [] before text after h

to_end : (b : Bool) (e : Expression) → EndsAlike b e → (before text after : List ℕ) → Stands (not b) after → Matches e before text [] → Matches e before text after
to_end true e alike before text after stands h = subst (λ (t : List ℕ). Matches e before text t) (sym stands) h
to_end false e alike before text after stands h = shift_end e alike before text [] after h

of_begin : (b : Bool) (e : Expression) → BeginsAlike b e → (before text after : List ℕ) → Matches e before text after → Stands (not b) before × Matches e [] text after
of_begin true e alike before text after h =
    let nil = alike before text after h in
    (nil, subst (λ (t : List ℕ). Matches e t text after) nil h)
of_begin false e alike before text after h = (tt, shift_begin e alike before [] text after h)

of_end : (b : Bool) (e : Expression) → EndsAlike b e → (before text after : List ℕ) → Matches e before text after → Stands (not b) after × Matches e before text []
of_end true e alike before text after h =
    let nil = alike before text after h in
    (nil, subst (λ (t : List ℕ). Matches e before text t) nil h)
of_end false e alike before text after h = (tt, shift_end e alike before text after [] h)

-- ---- the pattern of arguments

abbrev pub alternatives_tree : Option (Bool × Bool) → Expression → Sequence
alternatives_tree None e = next (in_parentheses (pattern_tree true true e)) nothing
alternatives_tree (Some edges) e = around_part (not edges.0) (in_parentheses (pattern_tree false false e)) (not edges.1)

abbrev pub some_tree : Expression → Sequence
some_tree (alternated first second) = alternatives_tree (edges_of (alternated first second)) (alternated first second)
some_tree branch = as_sequence (pattern_tree true true branch)

abbrev pub arguments_tree : Expression → Sequence
arguments_tree e = cond (is_everything e) (any_sequence true) (some_tree e)

alternatives_bytes_is : (edges : Option (Bool × Bool)) (e : Expression) → is_formed e ≡ true → sequence_bytes (alternatives_tree edges e) ≡ alternatives_written edges e
alternatives_bytes_is None e formed =
    append-nil (40 ∷ (alternatives_bytes (pattern_tree true true e) ++ 41 ∷ [])) ∙ ap (λ (t : List ℕ). 40 ∷ (t ++ 41 ∷ [])) (tree_bytes true true e formed)
alternatives_bytes_is (Some edges) e formed =
    around_bytes (not edges.0) (not edges.1) (in_parentheses (pattern_tree false false e)) (40 ∷ (written false false e ++ 41 ∷ []))
    (ap (λ (t : List ℕ). 40 ∷ (t ++ 41 ∷ [])) (tree_bytes false false e formed))

some_bytes : (e : Expression) → is_formed e ≡ true → sequence_bytes (some_tree e) ≡ some_written e
some_bytes (alternated first second) formed = alternatives_bytes_is (edges_of (alternated first second)) (alternated first second) formed
some_bytes blank formed = branch_bytes true true blank formed refl
some_bytes (symbol byte) formed = branch_bytes true true (symbol byte) formed refl
some_bytes period formed = branch_bytes true true period formed refl
some_bytes (bracketed negated first others) formed = branch_bytes true true (bracketed negated first others) formed refl
some_bytes begin formed = branch_bytes true true begin formed refl
some_bytes end formed = branch_bytes true true end formed refl
some_bytes (subexpression inner) formed = branch_bytes true true (subexpression inner) formed refl
some_bytes (duplicated part repeats) formed = branch_bytes true true (duplicated part repeats) formed refl
some_bytes (concatenated first second) formed = branch_bytes true true (concatenated first second) formed refl

pub arguments_bytes : (e : Expression) → is_formed e ≡ true → sequence_bytes (arguments_tree e) ≡ arguments_written e
unfolding arguments_written
arguments_bytes e formed = by (is_everything e)
  where
    by : (b : Bool) → sequence_bytes (cond b (any_sequence true) (some_tree e)) ≡ cond b (46 ∷ 42 ∷ []) (some_written e)
    by true = refl
    by false = some_bytes e formed

alternatives_right : (edges : Option (Bool × Bool)) (e : Expression) → is_formed e ≡ true → is_right_sequence Two (alternatives_tree edges e) ≡ true
alternatives_right None e formed = and_from (is_right_repetition Two (in_parentheses (pattern_tree true true e))) true (tree_right true true e formed) refl
alternatives_right (Some edges) e formed = around_right (not edges.0) (not edges.1) (in_parentheses (pattern_tree false false e)) (tree_right false false e formed)

some_right : (e : Expression) → is_formed e ≡ true → is_right_sequence Two (some_tree e) ≡ true
some_right (alternated first second) formed = alternatives_right (edges_of (alternated first second)) (alternated first second) formed
some_right blank formed = as_right (pattern_tree true true blank) (tree_right true true blank formed)
some_right (symbol byte) formed = as_right (pattern_tree true true (symbol byte)) (tree_right true true (symbol byte) formed)
some_right period formed = as_right (pattern_tree true true period) (tree_right true true period formed)
some_right (bracketed negated first others) formed = as_right (pattern_tree true true (bracketed negated first others)) (tree_right true true (bracketed negated first others) formed)
some_right begin formed = as_right (pattern_tree true true begin) (tree_right true true begin formed)
some_right end formed = as_right (pattern_tree true true end) (tree_right true true end formed)
some_right (subexpression inner) formed = as_right (pattern_tree true true (subexpression inner)) (tree_right true true (subexpression inner) formed)
some_right (duplicated part repeats) formed = as_right (pattern_tree true true (duplicated part repeats)) (tree_right true true (duplicated part repeats) formed)
some_right (concatenated first second) formed = as_right (pattern_tree true true (concatenated first second)) (tree_right true true (concatenated first second) formed)

pub arguments_right : (e : Expression) → is_formed e ≡ true → is_right_sequence Two (arguments_tree e) ≡ true
arguments_right e formed = by (is_everything e)
  where
    by : (b : Bool) → is_right_sequence Two (cond b (any_sequence true) (some_tree e)) ≡ true
    by true = refl
    by false = some_right e formed

-- ---- and what it holds

in_branch : (e : Expression) → is_formed e ≡ true → is_edged e ≡ true → (text : List ℕ) → InSequence (as_sequence (pattern_tree true true e)) text → Finds e text
in_branch e formed edged text h = edge_finds e text (to_edge true true e formed edged text (in_sequence (pattern_tree true true e) text h))

branch_in : (e : Expression) → is_formed e ≡ true → is_edged e ≡ true → (text : List ℕ) → is_text text ≡ true → Finds e text → InSequence (as_sequence (pattern_tree true true e)) text
branch_in e formed edged text texts h = sequence_in (pattern_tree true true e) text (of_edge true true e formed edged text texts (finds_edge e text h))

in_alike : (edges : Option (Bool × Bool)) (e : Expression) → is_formed e ≡ true → is_edged e ≡ true → edges_of e ≡ edges → (text : List ℕ) → InSequence (alternatives_tree edges e) text → Finds e text
in_alike None e formed edged is text h =
    let parts = in_next (in_parentheses (pattern_tree true true e)) nothing text h in
    let same : text ≡ parts.0 = parts.2 ∙ ap (λ (t : List ℕ). parts.0 ++ t) parts.4 ∙ append-nil parts.0 in
    subst (Finds e) (sym same) (edge_finds e parts.0 (to_edge true true e formed edged parts.0 (in_group (pattern_tree true true e) parts.0 parts.3)))
in_alike (Some edges) e formed edged is text h =
    let alike = all_alike e edged edges.0 edges.1 is in
    let d = in_around (not edges.0) (not edges.1) (in_parentheses (pattern_tree false false e)) text h in
    let inner = to_edge false false e formed edged d.part (in_group (pattern_tree false false e) d.part d.held) in
    let same : d.part ≡ inner.part = inner.whole ∙ ap (λ (b : List ℕ). b ++ (inner.part ++ inner.after)) inner.opened ∙ ap (λ (a : List ℕ). inner.part ++ a) inner.closed ∙ append-nil inner.part in
    let alone : Matches e [] d.part [] =
    subst (λ (t : List ℕ). Matches e [] t []) (sym same)
    (subst (λ (a : List ℕ). Matches e [] inner.part a) inner.closed (subst (λ (b : List ℕ). Matches e b inner.part inner.after) inner.opened inner.fits)) in (
      d.before,
      d.part,
      d.after,
      d.whole,
      to_begin edges.0 e alike.begins_alike d.before d.part d.after d.opened (to_end edges.1 e alike.ends_alike [] d.part d.after d.closed alone),
    )

alike_in : (edges : Option (Bool × Bool)) (e : Expression) → is_formed e ≡ true → is_edged e ≡ true → edges_of e ≡ edges → (text : List ℕ) → is_text text ≡ true → Finds e text → InSequence (alternatives_tree edges e) text
alike_in None e formed edged is text texts h =
    next_in (in_parentheses (pattern_tree true true e)) nothing text
    (text, [], sym (append-nil text), group_in (pattern_tree true true e) text (of_edge true true e formed edged text texts (finds_edge e text h)), refl)
alike_in (Some edges) e formed edged is text texts (before, part, after, whole, fits) =
    let alike = all_alike e edged edges.0 edges.1 is in
    let one = of_begin edges.0 e alike.begins_alike before part after fits in
    let two = of_end edges.1 e alike.ends_alike [] part after one.1 in
    let all : is_text (before ++ (part ++ after)) ≡ true = ap is_text (sym whole) ∙ texts in
    let here = (text_parts part after (text_parts before (part ++ after) all).1).0 in
    around_in (not edges.0) (not edges.1) (in_parentheses (pattern_tree false false e)) text texts
    (record {
      before = before;
      part = part;
      after = after;
      whole = whole;
      opened = one.0;
      closed = two.0;
      held =
          group_in (pattern_tree false false e) part
          (of_edge false false e formed edged part here
          (record { before = []; part = part; after = []; whole = sym (append-nil part); opened = refl; closed = refl; fits = two.1 }));
    })

in_some : (e : Expression) → is_formed e ≡ true → is_edged e ≡ true → (text : List ℕ) → InSequence (some_tree e) text → Finds e text
in_some (alternated first second) formed edged text h = in_alike (edges_of (alternated first second)) (alternated first second) formed edged refl text h
in_some blank formed edged text h = in_branch blank formed edged text h
in_some (symbol byte) formed edged text h = in_branch (symbol byte) formed edged text h
in_some period formed edged text h = in_branch period formed edged text h
in_some (bracketed negated first others) formed edged text h = in_branch (bracketed negated first others) formed edged text h
in_some begin formed edged text h = in_branch begin formed edged text h
in_some end formed edged text h = in_branch end formed edged text h
in_some (subexpression inner) formed edged text h = in_branch (subexpression inner) formed edged text h
in_some (duplicated part repeats) formed edged text h = in_branch (duplicated part repeats) formed edged text h
in_some (concatenated first second) formed edged text h = in_branch (concatenated first second) formed edged text h

some_in : (e : Expression) → is_formed e ≡ true → is_edged e ≡ true → (text : List ℕ) → is_text text ≡ true → Finds e text → InSequence (some_tree e) text
some_in (alternated first second) formed edged text texts h = alike_in (edges_of (alternated first second)) (alternated first second) formed edged refl text texts h
some_in blank formed edged text texts h = branch_in blank formed edged text texts h
some_in (symbol byte) formed edged text texts h = branch_in (symbol byte) formed edged text texts h
some_in period formed edged text texts h = branch_in period formed edged text texts h
some_in (bracketed negated first others) formed edged text texts h = branch_in (bracketed negated first others) formed edged text texts h
some_in begin formed edged text texts h = branch_in begin formed edged text texts h
some_in end formed edged text texts h = branch_in end formed edged text texts h
some_in (subexpression inner) formed edged text texts h = branch_in (subexpression inner) formed edged text texts h
some_in (duplicated part repeats) formed edged text texts h = branch_in (duplicated part repeats) formed edged text texts h
some_in (concatenated first second) formed edged text texts h = branch_in (concatenated first second) formed edged text texts h

pub in_arguments : (e : Expression) → is_formed e ≡ true → is_edged e ≡ true → (text : List ℕ) → InSequence (arguments_tree e) text → Finds e text
in_arguments e formed edged text = by (is_everything e) refl
  where
    by : (b : Bool) → is_everything e ≡ b → InSequence (cond b (any_sequence true) (some_tree e)) text → Finds e text
    by true is h = everything_finds e edged is text
    by false is h = in_some e formed edged text h

pub arguments_in : (e : Expression) → is_formed e ≡ true → is_edged e ≡ true → (text : List ℕ) → is_text text ≡ true → Finds e text → InSequence (arguments_tree e) text
arguments_in e formed edged text texts h = by (is_everything e)
  where
    by : (b : Bool) → InSequence (cond b (any_sequence true) (some_tree e)) text
    by true = stands_any true text texts tt
    by false = some_in e formed edged text texts h

-- ---- what is found in no arguments

nil_first : (a b : List ℕ) → [] ≡ a ++ b → a ≡ []
nil_first [] b h = refl
nil_first (byte ∷ a) b h = absurd cc

nil_second : (a b : List ℕ) → [] ≡ a ++ b → b ≡ []
nil_second [] b h = sym h
nil_second (byte ∷ a) b h = absurd cc

abbrev least : Repeats → ℕ
least Any = 0
least More = 1
least Optional = 0
least (Between low high) = low
least (AtLeast low) = low

least_allowed : (repeats : Repeats) → is_formed_count repeats ≡ true → Allows repeats (least repeats)
least_allowed Any formed = tt
least_allowed More formed = omega arith
least_allowed Optional formed = omega arith
least_allowed (Between low high) formed = (omega arith, leb-true low high (and_parts _ _ formed).0)
least_allowed (AtLeast low) formed = omega arith

nils : (e : Expression) (count : ℕ) → Matches e [] [] [] → Times (Matches e) count [] [] []
unfolding Times
nils e zero h = refl
nils e (suc count) h = ([], [], refl, h, nils e count h)

none_allowed : (repeats : Repeats) → allows_none repeats ≡ true → Allows repeats 0
none_allowed Any is = tt
none_allowed More is = absurd (false≢true is)
none_allowed Optional is = omega arith
none_allowed (Between low high) is = let zero_is : low ≡ 0 = eqb-true low 0 is in (omega arith, omega arith)
none_allowed (AtLeast low) is = let zero_is : low ≡ 0 = eqb-true low 0 is in omega arith

allowed_none : (repeats : Repeats) → Allows repeats 0 → allows_none repeats ≡ true
allowed_none Any h = refl
allowed_none More h = absurd (omega (arith, h))
allowed_none Optional h = refl
allowed_none (Between low high) h = eq-eqb low 0 (omega (arith, h.0))
allowed_none (AtLeast low) h = eq-eqb low 0 (omega (arith, h))

optional_matches : (e : Expression) → is_formed e ≡ true → is_optional e ≡ true → Matches e [] [] []
optional_matches blank formed is = refl
optional_matches (symbol byte) formed is = absurd (false≢true is)
optional_matches period formed is = absurd (false≢true is)
optional_matches (bracketed negated first others) formed is = absurd (false≢true is)
optional_matches begin formed is = (refl, refl)
optional_matches end formed is = (refl, refl)
optional_matches (subexpression inner) formed is = optional_matches inner formed is
optional_matches (duplicated part repeats) formed is =
    let f = and_parts (is_formed part) (is_piece part && is_formed_count repeats) formed in
    let g = and_parts (is_piece part) (is_formed_count repeats) f.1 in
    elim (or_cases (is_optional part) (allows_none repeats) is) [
      | inl one ↦ (least repeats, least_allowed repeats g.1, nils part (least repeats) (optional_matches part f.0 one))
      | inr none ↦ (0, none_allowed repeats none, nil_times (Matches part) [] [])
    ]
optional_matches (concatenated first second) formed is =
    let f = and_parts (is_formed first) (is_formed second && (not (is_alternated first) && not (is_alternated second))) formed in
    let g = and_parts (is_formed second) (not (is_alternated first) && not (is_alternated second)) f.1 in
    let parts = and_parts (is_optional first) (is_optional second) is in
    ([], [], refl, optional_matches first f.0 parts.0, optional_matches second g.0 parts.1)
optional_matches (alternated first second) formed is =
    let f = and_parts (is_formed first) (is_formed second) formed in
    elim (or_cases (is_optional first) (is_optional second) is) [
      | inl one ↦ inl (optional_matches first f.0 one)
      | inr two ↦ inr (optional_matches second f.1 two)
    ]

times_none : (e : Expression) (repeats : Repeats) (count : ℕ) → Allows repeats count → (Matches e [] [] [] → is_optional e ≡ true) → Times (Matches e) count [] [] [] → (is_optional e || allows_none repeats) ≡ true
unfolding Times
times_none e repeats zero allowed gives h = or_right (is_optional e) (allows_none repeats) (allowed_none repeats allowed)
times_none e repeats (suc count) allowed gives (front, back, whole, first, rest) =
    let one : front ≡ [] = nil_first front back whole in
    let two : back ≡ [] = nil_second front back whole in
    or_left (is_optional e) (allows_none repeats)
    (gives (subst (λ (t : List ℕ). Matches e [] t []) one (subst (λ (t : List ℕ). Matches e [] front (t ++ [])) two first)))

matches_optional : (e : Expression) → Matches e [] [] [] → is_optional e ≡ true
matches_optional blank h = refl
matches_optional (symbol byte) h = absurd cc
matches_optional period h = let is = h.1 in absurd cc
matches_optional (bracketed negated first others) h = let is = h.1 in absurd cc
matches_optional begin h = refl
matches_optional end h = refl
matches_optional (subexpression inner) h = matches_optional inner h
matches_optional (duplicated part repeats) (count, allowed, times) = times_none part repeats count allowed (matches_optional part) times
matches_optional (concatenated first second) (front, back, whole, one, two) =
    let f : front ≡ [] = nil_first front back whole in
    let b : back ≡ [] = nil_second front back whole in
    and_from (is_optional first) (is_optional second)
    (matches_optional first (subst (λ (t : List ℕ). Matches first [] t []) f (subst (λ (t : List ℕ). Matches first [] front (t ++ [])) b one)))
    (matches_optional second (subst (λ (t : List ℕ). Matches second t [] []) f (subst (λ (t : List ℕ). Matches second front t []) b two)))
matches_optional (alternated first second) (inl h) = or_left (is_optional first) (is_optional second) (matches_optional first h)
matches_optional (alternated first second) (inr h) = or_right (is_optional first) (is_optional second) (matches_optional second h)

pub optional_law : (e : Expression) → is_formed e ≡ true → (is_optional e ≡ true) ↔ Finds e []
optional_law e formed = (
  λ is. ([], [], [], refl, optional_matches e formed is),
  λ found. matches_optional e (only found.0 found.1 found.2 found.3 found.4),
)
  where
    only : (before part after : List ℕ) → [] ≡ before ++ (part ++ after) → Matches e before part after → Matches e [] [] []
    only before part after whole h =
        let b : before ≡ [] = nil_first before (part ++ after) whole in
        let rest : [] ≡ part ++ after = sym (nil_second before (part ++ after) whole) in
        let p : part ≡ [] = nil_first part after rest in
        let a : after ≡ [] = nil_second part after rest in
        subst (λ (t : List ℕ). Matches e t [] []) b (subst (λ (t : List ℕ). Matches e before t []) p (subst (λ (t : List ℕ). Matches e before part t) a h))
