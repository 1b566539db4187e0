-- The pattern of an expression holds a text exactly if the expression matches a part of it: any text
-- may stand around that part where the pattern has a `.*`.
use Rattle.std.proofs.Common.{◌≡◌, ◌⊎◌, ℕ, zero, suc, ◌≤◌, Bool, true, false, ◌&&◌, ◌||◌, not, List, [], ◌∷◌, ◌++◌, refl, sym, ap, ap₂, subst, ◌∙◌, inl, inr, append_assoc, append-nil, length, length-append, arith}
use Rattle.std.proofs.lemmas.Bool.{and_parts, or_cases, not-true, true≢false, false≢true, cases_Bool}
use Rattle.basics.specs.Symbol.{is_symbol, is_text}
use Rattle.pol_pattern.specs.Languages.{Power}
use Rattle.pol_pattern.specs.Spelling.{Alternatives, Repetition, once, dot, bracket}
use Rattle.posix_expression.specs.declared.tree.Repeats.{Repeats}
use Rattle.posix_expression.specs.declared.tree.Repeats.TheVariants.{Any, More, Optional, Between, AtLeast}
use Rattle.posix_expression.specs.Syntax.{Expression, blank, symbol, period, bracketed, begin, end, subexpression, duplicated, concatenated, alternated, has_begin, has_end, is_begin, is_end, is_alternated, is_piece, is_formed, is_formed_count, is_edged}
use Rattle.posix_expression.specs.Finding.{Times, Matches}
use Rattle.posix_expression.specs.Writing.{is_run}
use Rattle.posix_expression.proofs.PatternSets.{InPart, InAlternatives, append, in_append, append_in, in_parentheses, in_group, group_in, as_sequence, in_sequence, sequence_in, in_either, either_in, in_single, single_in}
use Rattle.posix_expression.proofs.PatternTrees.{symbol_atom, item_of, items_of, any_sequence, around_part, repeated_part, pattern_tree, part_tree}
use Rattle.posix_expression.proofs.Texts.{text_parts, Stands, stands-nil, any_stands, stands_any, stands_both, Around, in_around, around_in}
use Rattle.posix_expression.proofs.Fits.{shift_begin, shift_end, shift, times_power, power_times}
use Rattle.posix_expression.proofs.Parts.{in_symbol, symbol_in, in_dot, dot_in, in_bracket, bracket_in}
use Rattle.posix_expression.proofs.Repeated.{in_repeated, repeated_in}

-- the expression matches a part of the text, around which there is what may stand there
pub record Edge (opens closes : Bool) (e : Expression) (text : List ℕ) : Type 0 where
  pub before : List ℕ
  pub part : List ℕ
  pub after : List ℕ
  pub whole : text ≡ before ++ (part ++ after)
  pub opened : Stands opens before
  pub closed : Stands closes after
  pub fits : Matches e before part after

-- ---- which conditions the parts of an expression meet

pub record Both (first second : Expression) : Type 0 where
  pub formed_first : is_formed first ≡ true
  pub formed_second : is_formed second ≡ true
  pub edged_first : is_edged first ≡ true
  pub edged_second : is_edged second ≡ true
  pub no_or_first : is_alternated first ≡ false
  pub no_or_second : is_alternated second ≡ false
  pub begins : (is_begin first ≡ true) ⊎ (has_begin second ≡ false)
  pub ends : (is_end second ≡ true) ⊎ (has_end first ≡ false)

or_not : (a b : Bool) → (a || not b) ≡ true → (a ≡ true) ⊎ (b ≡ false)
or_not a b h =
    elim (or_cases a (not b) h) [
      | inl first ↦ inl first
      | inr second ↦ inr (not-true b second)
    ]

pub both : (first second : Expression) → is_formed (concatenated first second) ≡ true → is_edged (concatenated first second) ≡ true → Both first second
both first second formed edged =
    let f = and_parts (is_formed first) (is_formed second && (not (is_alternated first) && not (is_alternated second))) formed in
    let g = and_parts (is_formed second) (not (is_alternated first) && not (is_alternated second)) f.1 in
    let n = and_parts (not (is_alternated first)) (not (is_alternated second)) g.1 in
    let e = and_parts (is_edged first) (is_edged second && ((is_begin first || not (has_begin second)) && (is_end second || not (has_end first)))) edged in
    let d = and_parts (is_edged second) ((is_begin first || not (has_begin second)) && (is_end second || not (has_end first))) e.1 in
    let a = and_parts (is_begin first || not (has_begin second)) (is_end second || not (has_end first)) d.1 in
    record {
      formed_first = f.0;
      formed_second = g.0;
      edged_first = e.0;
      edged_second = d.0;
      no_or_first = not-true (is_alternated first) n.0;
      no_or_second = not-true (is_alternated second) n.1;
      begins = or_not (is_begin first) (has_begin second) a.0;
      ends = or_not (is_end second) (has_end first) a.1;
    }

pub record Often (part : Expression) (repeats : Repeats) : Type 0 where
  pub formed : is_formed part ≡ true
  pub piece : is_piece part ≡ true
  pub count : is_formed_count repeats ≡ true
  pub edged : is_edged part ≡ true
  pub no_begin : has_begin part ≡ false
  pub no_end : has_end part ≡ false

pub often : (part : Expression) (repeats : Repeats) → is_formed (duplicated part repeats) ≡ true → is_edged (duplicated part repeats) ≡ true → Often part repeats
often part repeats formed edged =
    let f = and_parts (is_formed part) (is_piece part && is_formed_count repeats) formed in
    let g = and_parts (is_piece part) (is_formed_count repeats) f.1 in
    let e = and_parts (is_edged part && not (has_begin part)) (not (has_end part)) edged in
    let d = and_parts (is_edged part) (not (has_begin part)) e.0 in
    record {
      formed = f.0;
      piece = g.0;
      count = g.1;
      edged = d.0;
      no_begin = not-true (has_begin part) d.1;
      no_end = not-true (has_end part) e.1;
    }

-- what an anchor fits
begin_fits : (e : Expression) → is_begin e ≡ true → (before text after : List ℕ) → Matches e before text after → (text ≡ []) × (before ≡ [])
begin_fits begin is before text after h = h
begin_fits blank is before text after h = absurd (false≢true is)
begin_fits (symbol byte) is before text after h = absurd (false≢true is)
begin_fits period is before text after h = absurd (false≢true is)
begin_fits (bracketed negated first others) is before text after h = absurd (false≢true is)
begin_fits end is before text after h = absurd (false≢true is)
begin_fits (subexpression inner) is before text after h = absurd (false≢true is)
begin_fits (duplicated part repeats) is before text after h = absurd (false≢true is)
begin_fits (concatenated first second) is before text after h = absurd (false≢true is)
begin_fits (alternated first second) is before text after h = absurd (false≢true is)

end_fits : (e : Expression) → is_end e ≡ true → (before text after : List ℕ) → Matches e before text after → (text ≡ []) × (after ≡ [])
end_fits end is before text after h = h
end_fits blank is before text after h = absurd (false≢true is)
end_fits (symbol byte) is before text after h = absurd (false≢true is)
end_fits period is before text after h = absurd (false≢true is)
end_fits (bracketed negated first others) is before text after h = absurd (false≢true is)
end_fits begin is before text after h = absurd (false≢true is)
end_fits (subexpression inner) is before text after h = absurd (false≢true is)
end_fits (duplicated part repeats) is before text after h = absurd (false≢true is)
end_fits (concatenated first second) is before text after h = absurd (false≢true is)
end_fits (alternated first second) is before text after h = absurd (false≢true is)

nil_join : (a b : List ℕ) → a ≡ [] → b ≡ [] → a ++ b ≡ []
nil_join a b first second = ap₂ (λ (x y : List ℕ). x ++ y) first second

-- ---- one alone

edge_alone : (e : Expression) (text : List ℕ) → Edge false false e text → Matches e [] text []
edge_alone e text d =
    let same : text ≡ d.part =
    d.whole ∙ ap (λ (b : List ℕ). b ++ (d.part ++ d.after)) d.opened ∙ ap (λ (a : List ℕ). d.part ++ a) d.closed ∙ append-nil d.part in
    subst (λ (t : List ℕ). Matches e [] t []) (sym same)
    (subst (λ (a : List ℕ). Matches e [] d.part a) d.closed (subst (λ (b : List ℕ). Matches e b d.part d.after) d.opened d.fits))

alone_edge : (e : Expression) (text : List ℕ) → Matches e [] text [] → Edge false false e text
alone_edge e text h = record {
  before = [];
  part = text;
  after = [];
  whole = sym (append-nil text);
  opened = refl;
  closed = refl;
  fits = h;
}

-- ---- the empty branch

edge_blank : (opens closes : Bool) (text : List ℕ) → Stands (opens || closes) text → Edge opens closes blank text
edge_blank true closes text h = record { before = text; part = []; after = []; whole = sym (append-nil text); opened = tt; closed = stands-nil closes; fits = refl }
edge_blank false true text h = record { before = []; part = []; after = text; whole = refl; opened = refl; closed = tt; fits = refl }
edge_blank false false text h = record { before = []; part = []; after = []; whole = h; opened = refl; closed = refl; fits = refl }

blank_edge : (opens closes : Bool) (text : List ℕ) → Edge opens closes blank text → Stands (opens || closes) text
blank_edge true closes text d = tt
blank_edge false true text d = tt
blank_edge false false text d = d.whole ∙ nil_join d.before (d.part ++ d.after) d.opened (nil_join d.part d.after d.fits d.closed)

-- ---- a part with what may stand around it

edge_around : (opens closes : Bool) (P : List ℕ → Type 0) (e : Expression) (text : List ℕ) → ((part : List ℕ) → P part → (before after : List ℕ) → Matches e before part after)
    → Around opens closes P text → Edge opens closes e text
edge_around opens closes P e text gives d = record {
  before = d.before;
  part = d.part;
  after = d.after;
  whole = d.whole;
  opened = d.opened;
  closed = d.closed;
  fits = gives d.part d.held d.before d.after;
}

around_edge : (opens closes : Bool) (P : List ℕ → Type 0) (e : Expression) (text : List ℕ) → is_text text ≡ true
    → ((before part after : List ℕ) → is_text part ≡ true → Matches e before part after → P part) → Edge opens closes e text → Around opens closes P text
around_edge opens closes P e text texts gives d =
    let all : is_text (d.before ++ (d.part ++ d.after)) ≡ true = ap is_text (sym d.whole) ∙ texts in
    let here = (text_parts d.part d.after (text_parts d.before (d.part ++ d.after) all).1).0 in
    record {
      before = d.before;
      part = d.part;
      after = d.after;
      whole = d.whole;
      opened = d.opened;
      closed = d.closed;
      held = gives d.before d.part d.after here d.fits;
    }

one_text : (part : List ℕ) (byte : ℕ) → is_text part ≡ true → part ≡ byte ∷ [] → is_symbol byte ≡ true
one_text part byte texts is = (and_parts (is_symbol byte) true (ap is_text (sym is) ∙ texts)).0

-- a `.*` inside parentheses or before them
inside_opened : (opens inner : Bool) (before more : List ℕ) → Stands (opens && not inner) before → Stands (opens && inner) more → Stands opens (before ++ more)
inside_opened true inner before more a b = tt
inside_opened false inner before more a b = nil_join before more a b

outside_nil : (opens inner : Bool) (before : List ℕ) → Stands (opens && not inner) before → inner ≡ true → before ≡ []
outside_nil true true before h is = h
outside_nil true false before h is = absurd (false≢true is)
outside_nil false inner before h is = h

inside_nil : (opens inner : Bool) (before : List ℕ) → Stands (opens && inner) before → inner ≡ false → before ≡ []
inside_nil true false before h is = h
inside_nil true true before h is = absurd (true≢false is)
inside_nil false inner before h is = h

-- an expression matches in parentheses wherever the `.*` is
enclosed : (opens closes : Bool) (e : Expression) (text : List ℕ) → Around (opens && not (has_begin e)) (closes && not (has_end e)) (Edge (opens && has_begin e) (closes && has_end e) e) text
    → Edge opens closes (subexpression e) text
enclosed opens closes e text d =
    let inner = d.held in
    let first : Matches e (d.before ++ inner.before) inner.part inner.after =
    elim (cases_Bool (has_begin e)) [
      | inl has ↦ subst (λ (b : List ℕ). Matches e (b ++ inner.before) inner.part inner.after) (sym (outside_nil opens (has_begin e) d.before d.opened has)) inner.fits
      | inr none ↦ shift_begin e none inner.before (d.before ++ inner.before) inner.part inner.after inner.fits
    ] in
    let second : Matches e (d.before ++ inner.before) inner.part (inner.after ++ d.after) =
    elim (cases_Bool (has_end e)) [
      | inl has ↦
          subst (λ (a : List ℕ). Matches e (d.before ++ inner.before) inner.part (inner.after ++ a)) (sym (outside_nil closes (has_end e) d.after d.closed has))
          (subst (λ (a : List ℕ). Matches e (d.before ++ inner.before) inner.part a) (sym (append-nil inner.after)) first)
      | inr none ↦ shift_end e none (d.before ++ inner.before) inner.part inner.after (inner.after ++ d.after) first
    ] in
    record {
      before = d.before ++ inner.before;
      part = inner.part;
      after = inner.after ++ d.after;
      whole =
          d.whole ∙ ap (λ (t : List ℕ). d.before ++ (t ++ d.after)) inner.whole
          ∙ regroup d.before inner.before inner.part inner.after d.after;
      opened = inside_opened opens (has_begin e) d.before inner.before d.opened inner.opened;
      closed = closed_join closes (has_end e) inner.after d.after inner.closed d.closed;
      fits = second;
    }
  where
    regroup : (a b c d e : List ℕ) → a ++ ((b ++ (c ++ d)) ++ e) ≡ (a ++ b) ++ (c ++ (d ++ e))
    regroup a b c d e = simp append_assoc

    closed_join : (closes inner : Bool) (more after : List ℕ) → Stands (closes && inner) more → Stands (closes && not inner) after → Stands closes (more ++ after)
    closed_join true inner more after a b = tt
    closed_join false inner more after a b = nil_join more after a b

-- where what may stand before it stands: inside or outside
disclosed : (opens closes : Bool) (e : Expression) (text : List ℕ) → Edge opens closes (subexpression e) text
    → Around (opens && not (has_begin e)) (closes && not (has_end e)) (Edge (opens && has_begin e) (closes && has_end e) e) text
disclosed opens closes e text d = by (has_begin e) (has_end e) refl refl
  where
    and_true : (b : Bool) (t : List ℕ) → Stands b t → Stands (b && true) t
    and_true true t h = tt
    and_true false t h = h

    by : (b n : Bool) → has_begin e ≡ b → has_end e ≡ n → Around (opens && not b) (closes && not n) (Edge (opens && b) (closes && n) e) text
    by true true hb he = record {
      before = [];
      part = text;
      after = [];
      whole = sym (append-nil text);
      opened = stands-nil (opens && false);
      closed = stands-nil (closes && false);
      held = record { before = d.before; part = d.part; after = d.after; whole = d.whole; opened = and_true opens d.before d.opened; closed = and_true closes d.after d.closed; fits = d.fits };
    }
    by true false hb he = record {
      before = [];
      part = d.before ++ d.part;
      after = d.after;
      whole = d.whole ∙ sym (append_assoc d.before d.part d.after);
      opened = stands-nil (opens && false);
      closed = and_true closes d.after d.closed;
      held = record {
        before = d.before;
        part = d.part;
        after = [];
        whole = ap (λ (t : List ℕ). d.before ++ t) (sym (append-nil d.part));
        opened = and_true opens d.before d.opened;
        closed = stands-nil (closes && false);
        fits = shift_end e he d.before d.part d.after [] d.fits;
      };
    }
    by false true hb he = record {
      before = d.before;
      part = d.part ++ d.after;
      after = [];
      whole = d.whole ∙ ap (λ (t : List ℕ). d.before ++ t) (sym (append-nil (d.part ++ d.after)));
      opened = and_true opens d.before d.opened;
      closed = stands-nil (closes && false);
      held = record {
        before = [];
        part = d.part;
        after = d.after;
        whole = refl;
        opened = stands-nil (opens && false);
        closed = and_true closes d.after d.closed;
        fits = shift_begin e hb d.before [] d.part d.after d.fits;
      };
    }
    by false false hb he = record {
      before = d.before;
      part = d.part;
      after = d.after;
      whole = d.whole;
      opened = and_true opens d.before d.opened;
      closed = and_true closes d.after d.closed;
      held = record {
        before = [];
        part = d.part;
        after = [];
        whole = sym (append-nil d.part);
        opened = stands-nil (opens && false);
        closed = stands-nil (closes && false);
        fits = shift e hb he d.before d.part d.after [] [] d.fits;
      };
    }

-- ---- one after the other

concatenated_edge : (opens closes : Bool) (first second : Expression) (text : List ℕ) → Both first second
    → (front back : List ℕ) → text ≡ front ++ back → Edge opens false first front → Edge false closes second back → Edge opens closes (concatenated first second) text
concatenated_edge opens closes first second text said front back split a b =
    let one : Matches first a.before a.part [] = subst (λ (t : List ℕ). Matches first a.before a.part t) a.closed a.fits in
    let two : Matches second [] b.part b.after = subst (λ (t : List ℕ). Matches second t b.part b.after) b.opened b.fits in
    let left : Matches first a.before a.part (b.part ++ b.after) =
    elim said.ends [
      | inl is ↦
          let nil = end_fits second is [] b.part b.after two in
          subst (λ (t : List ℕ). Matches first a.before a.part t) (sym (nil_join b.part b.after nil.0 nil.1)) one
      | inr none ↦ shift_end first none a.before a.part [] (b.part ++ b.after) one
    ] in
    let right : Matches second (a.before ++ a.part) b.part b.after =
    elim said.begins [
      | inl is ↦
          let nil = begin_fits first is a.before a.part [] one in
          subst (λ (t : List ℕ). Matches second t b.part b.after) (sym (nil_join a.before a.part nil.1 nil.0)) two
      | inr none ↦ shift_begin second none [] (a.before ++ a.part) b.part b.after two
    ] in
    record {
      before = a.before;
      part = a.part ++ b.part;
      after = b.after;
      whole =
          split ∙ ap₂ (λ (x y : List ℕ). x ++ y) (a.whole ∙ ap (λ (t : List ℕ). a.before ++ (a.part ++ t)) a.closed) (b.whole ∙ ap (λ (t : List ℕ). t ++ (b.part ++ b.after)) b.opened)
          ∙ regroup a.before a.part b.part b.after;
      opened = a.opened;
      closed = b.closed;
      fits = (a.part, b.part, refl, left, right);
    }
  where
    regroup : (a b c d : List ℕ) → (a ++ (b ++ [])) ++ (c ++ d) ≡ a ++ ((b ++ c) ++ d)
    regroup a b c d = simp (append_assoc, append-nil)

pub record Cut (opens closes : Bool) (first second : Expression) (text : List ℕ) : Type 0 where
  pub front : List ℕ
  pub back : List ℕ
  pub split : text ≡ front ++ back
  pub one : Edge opens false first front
  pub two : Edge false closes second back

edge_concatenated : (opens closes : Bool) (first second : Expression) (text : List ℕ) → Both first second → Edge opens closes (concatenated first second) text → Cut opens closes first second text
edge_concatenated opens closes first second text said d = by d.fits
  where
    regroup : (a b c d : List ℕ) → a ++ ((b ++ c) ++ d) ≡ (a ++ b) ++ (c ++ d)
    regroup a b c d = simp append_assoc

    by : Matches (concatenated first second) d.before d.part d.after → Cut opens closes first second text
    by (front, back, whole, left, right) =
        let one : Matches first d.before front [] =
        elim said.ends [
          | inl is ↦
              let nil = end_fits second is (d.before ++ front) back d.after right in
              subst (λ (t : List ℕ). Matches first d.before front t) (nil_join back d.after nil.0 nil.1) left
          | inr none ↦ shift_end first none d.before front (back ++ d.after) [] left
        ] in
        let two : Matches second [] back d.after =
        elim said.begins [
          | inl is ↦
              let nil = begin_fits first is d.before front (back ++ d.after) left in
              subst (λ (t : List ℕ). Matches second t back d.after) (nil_join d.before front nil.1 nil.0) right
          | inr none ↦ shift_begin second none (d.before ++ front) [] back d.after right
        ] in
        record {
          front = d.before ++ front;
          back = back ++ d.after;
          split = d.whole ∙ ap (λ (t : List ℕ). d.before ++ (t ++ d.after)) whole ∙ regroup d.before front back d.after;
          one = record { before = d.before; part = front; after = []; whole = ap (λ (t : List ℕ). d.before ++ t) (sym (append-nil front)); opened = d.opened; closed = refl; fits = one };
          two = record { before = []; part = back; after = d.after; whole = refl; opened = refl; closed = d.closed; fits = two };
        }

-- ---- one or the other

edge_first : (opens closes : Bool) (first second : Expression) (text : List ℕ) → Edge opens closes first text → Edge opens closes (alternated first second) text
edge_first opens closes first second text d =
    record { before = d.before; part = d.part; after = d.after; whole = d.whole; opened = d.opened; closed = d.closed; fits = inl d.fits }

edge_second : (opens closes : Bool) (first second : Expression) (text : List ℕ) → Edge opens closes second text → Edge opens closes (alternated first second) text
edge_second opens closes first second text d =
    record { before = d.before; part = d.part; after = d.after; whole = d.whole; opened = d.opened; closed = d.closed; fits = inr d.fits }

pub edge_alternated : (opens closes : Bool) (first second : Expression) (text : List ℕ) → Edge opens closes (alternated first second) text → Edge opens closes first text ⊎ Edge opens closes second text
edge_alternated opens closes first second text d = by d.fits
  where
    by : Matches first d.before d.part d.after ⊎ Matches second d.before d.part d.after → Edge opens closes first text ⊎ Edge opens closes second text
    by (inl h) = inl (record { before = d.before; part = d.part; after = d.after; whole = d.whole; opened = d.opened; closed = d.closed; fits = h })
    by (inr h) = inr (record { before = d.before; part = d.part; after = d.after; whole = d.whole; opened = d.opened; closed = d.closed; fits = h })

-- ---- repeats

repeated_fits : (part : Expression) (repeats : Repeats) → Often part repeats → ((text : List ℕ) → InPart (part_tree part) text → Matches part [] text [])
    → (text : List ℕ) → InPart (repeated_part repeats (part_tree part)) text → (before after : List ℕ) → Matches (duplicated part repeats) before text after
repeated_fits part repeats said gives text h before after =
    let d = in_repeated repeats (part_tree part) text said.count h in (
      d.0,
      d.1,
      power_times (InPart (part_tree part)) (Matches part) (λ t held b a. shift part said.no_begin said.no_end [] t [] b a (gives t held)) d.0 text d.2 before after,
    )

fits_repeated : (part : Expression) (repeats : Repeats) → Often part repeats → ((text : List ℕ) → is_text text ≡ true → Matches part [] text [] → InPart (part_tree part) text)
    → (before text after : List ℕ) → is_text text ≡ true → Matches (duplicated part repeats) before text after → InPart (repeated_part repeats (part_tree part)) text
fits_repeated part repeats said gives before text after texts (count, allowed, times) =
    repeated_in repeats (part_tree part) text said.count count allowed
    (times_power (InPart (part_tree part)) (Matches part) (λ b t a here fits. gives t here (shift part said.no_begin said.no_end b t a [] [] fits)) count before text after texts times)

-- beside `.*` and `.+` no `.*` is written
around_less : (opens closes run : Bool) (P : List ℕ → Type 0) (text : List ℕ) → Around (opens && not run) (closes && not run) P text → Around opens closes P text
around_less opens closes run P text d = record {
  before = d.before;
  part = d.part;
  after = d.after;
  whole = d.whole;
  opened = stands_both opens (not run) d.before d.opened;
  closed = stands_both closes (not run) d.after d.closed;
  held = d.held;
}

around_with : (opens closes : Bool) (P Q : List ℕ → Type 0) (text : List ℕ) → ((part : List ℕ) → P part → Q part) → Around opens closes P text → Around opens closes Q text
around_with opens closes P Q text gives d = record {
  before = d.before;
  part = d.part;
  after = d.after;
  whole = d.whole;
  opened = d.opened;
  closed = d.closed;
  held = gives d.part d.held;
}

around_texts : (opens closes : Bool) (P Q : List ℕ → Type 0) (text : List ℕ) → is_text text ≡ true → ((part : List ℕ) → is_text part ≡ true → P part → Q part) → Around opens closes P text → Around opens closes Q text
around_texts opens closes P Q text texts gives d =
    let all : is_text (d.before ++ (d.part ++ d.after)) ≡ true = ap is_text (sym d.whole) ∙ texts in
    let here = (text_parts d.part d.after (text_parts d.before (d.part ++ d.after) all).1).0 in
    record {
      before = d.before;
      part = d.part;
      after = d.after;
      whole = d.whole;
      opened = d.opened;
      closed = d.closed;
      held = gives d.part here d.held;
    }

-- ---- `.*` and `.+`

text_power : (text : List ℕ) → is_text text ≡ true → Power (InPart (once dot)) (length text) text
unfolding Power
text_power [] h = refl
text_power (byte ∷ text) h =
    let parts = and_parts (is_symbol byte) (is_text text) h in
    (byte ∷ [], text, refl, dot_in (byte ∷ []) byte parts.0 refl, text_power text parts.1)

some_periods : (count : ℕ) (before text after : List ℕ) → 1 ≤ count → Times (Matches period) count before text after → 1 ≤ length text
unfolding Times
some_periods zero before text after le h = absurd (omega (arith, le))
some_periods (suc count) before text after le (front, back, whole, (byte, is), rest) =
    omega (arith, ap length whole, ap length is, length-append front back)

run_in : (part : Expression) (repeats : Repeats) → is_run part repeats ≡ true → (opens closes : Bool) (text : List ℕ) → is_text text ≡ true → Edge opens closes (duplicated part repeats) text
    → InPart (repeated_part repeats (part_tree part)) text
run_in period Any is opens closes text texts d = repeated_in Any (once dot) text refl (length text) tt (text_power text texts)
run_in period More is opens closes text texts d =
    let one : 1 ≤ length d.part = some_periods d.fits.0 d.before d.part d.after d.fits.1 d.fits.2 in
    let all : 1 ≤ length text = omega (arith, one, ap length d.whole, length-append d.before (d.part ++ d.after), length-append d.part d.after) in
    repeated_in More (once dot) text refl (length text) all (text_power text texts)
run_in period Optional is opens closes text texts d = absurd (false≢true is)
run_in period (Between low high) is opens closes text texts d = absurd (false≢true is)
run_in period (AtLeast low) is opens closes text texts d = absurd (false≢true is)
run_in blank repeats is opens closes text texts d = absurd (false≢true is)
run_in (symbol byte) repeats is opens closes text texts d = absurd (false≢true is)
run_in (bracketed negated first others) repeats is opens closes text texts d = absurd (false≢true is)
run_in begin repeats is opens closes text texts d = absurd (false≢true is)
run_in end repeats is opens closes text texts d = absurd (false≢true is)
run_in (subexpression inner) repeats is opens closes text texts d = absurd (false≢true is)
run_in (duplicated inner other) repeats is opens closes text texts d = absurd (false≢true is)
run_in (concatenated first second) repeats is opens closes text texts d = absurd (false≢true is)
run_in (alternated first second) repeats is opens closes text texts d = absurd (false≢true is)

repeated_around : (part : Expression) (repeats : Repeats) → Often part repeats → ((text : List ℕ) → is_text text ≡ true → Matches part [] text [] → InPart (part_tree part) text)
    → (opens closes : Bool) (text : List ℕ) → is_text text ≡ true → Edge opens closes (duplicated part repeats) text
    → Around (opens && not (is_run part repeats)) (closes && not (is_run part repeats)) (InPart (repeated_part repeats (part_tree part))) text
repeated_around part repeats said gives opens closes text texts d = by (is_run part repeats) refl
  where
    kept : (b : Bool) (t : List ℕ) → Stands b t → Stands (b && true) t
    kept true t h = tt
    kept false t h = h

    by : (run : Bool) → is_run part repeats ≡ run → Around (opens && not run) (closes && not run) (InPart (repeated_part repeats (part_tree part))) text
    by true is = record {
      before = [];
      part = text;
      after = [];
      whole = sym (append-nil text);
      opened = stands-nil (opens && false);
      closed = stands-nil (closes && false);
      held = run_in part repeats is opens closes text texts d;
    }
    by false is =
        let around = around_edge opens closes (InPart (repeated_part repeats (part_tree part))) (duplicated part repeats) text texts (fits_repeated part repeats said gives) d in
        record {
          before = around.before;
          part = around.part;
          after = around.after;
          whole = around.whole;
          opened = kept opens around.before around.opened;
          closed = kept closes around.after around.closed;
          held = around.held;
        }

-- ---- what the pattern holds matches

mutual
  pub to_edge : (opens closes : Bool) (e : Expression) → is_formed e ≡ true → is_edged e ≡ true → (text : List ℕ) → InAlternatives (pattern_tree opens closes e) text → Edge opens closes e text
  to_edge opens closes blank formed edged text h = edge_blank opens closes text (any_stands (opens || closes) text (in_single (any_sequence (opens || closes)) text h))
  to_edge opens closes (symbol byte) formed edged text h =
      edge_around opens closes (InPart (once (symbol_atom byte))) (symbol byte) text (λ part held before after. in_symbol byte part held)
      (in_around opens closes (once (symbol_atom byte)) text (in_single (around_part opens (once (symbol_atom byte)) closes) text h))
  to_edge opens closes period formed edged text h =
      edge_around opens closes (InPart (once dot)) period text (λ part held before after. in_dot part held)
      (in_around opens closes (once dot) text (in_single (around_part opens (once dot) closes) text h))
  to_edge opens closes (bracketed negated first others) formed edged text h =
      let part : Repetition = once (bracket negated (item_of first) (items_of others)) in
      edge_around opens closes (InPart part) (bracketed negated first others) text (λ t held before after. in_bracket negated first others t held)
      (in_around opens closes part text (in_single (around_part opens part closes) text h))
  to_edge opens closes begin formed edged text h =
      record { before = []; part = []; after = text; whole = refl; opened = stands-nil opens; closed = any_stands closes text (in_single (any_sequence closes) text h); fits = (refl, refl) }
  to_edge opens closes end formed edged text h =
      record { before = text; part = []; after = []; whole = sym (append-nil text); opened = any_stands opens text (in_single (any_sequence opens) text h); closed = stands-nil closes; fits = (refl, refl) }
  to_edge opens closes (subexpression inner) formed edged text h =
      let inside : Alternatives = pattern_tree (opens && has_begin inner) (closes && has_end inner) inner in
      enclosed opens closes inner text
      (around_with (opens && not (has_begin inner)) (closes && not (has_end inner)) (InPart (in_parentheses inside)) (Edge (opens && has_begin inner) (closes && has_end inner) inner) text
      (λ part held. to_edge (opens && has_begin inner) (closes && has_end inner) inner formed edged part (in_group inside part held))
      (in_around (opens && not (has_begin inner)) (closes && not (has_end inner)) (in_parentheses inside) text
      (in_single (around_part (opens && not (has_begin inner)) (in_parentheses inside) (closes && not (has_end inner))) text h)))
  to_edge opens closes (duplicated part repeats) formed edged text h =
      let said = often part repeats formed edged in
      let whole : Repetition = repeated_part repeats (part_tree part) in
      edge_around opens closes (InPart whole) (duplicated part repeats) text
      (repeated_fits part repeats said (to_part part said.formed said.edged said.piece said.no_begin said.no_end))
      (around_less opens closes (is_run part repeats) (InPart whole) text
      (in_around (opens && not (is_run part repeats)) (closes && not (is_run part repeats)) whole text
      (in_single (around_part (opens && not (is_run part repeats)) whole (closes && not (is_run part repeats))) text h)))
  to_edge opens closes (concatenated first second) formed edged text h =
      let said = both first second formed edged in
      let left : Alternatives = pattern_tree opens false first in
      let right : Alternatives = pattern_tree false closes second in
      let parts = in_append (as_sequence left) (as_sequence right) text (in_single (append (as_sequence left) (as_sequence right)) text h) in
      concatenated_edge opens closes first second text said parts.0 parts.1 parts.2
      (to_edge opens false first said.formed_first said.edged_first parts.0 (in_sequence left parts.0 parts.3))
      (to_edge false closes second said.formed_second said.edged_second parts.1 (in_sequence right parts.1 parts.4))
  to_edge opens closes (alternated first second) formed edged text h =
      let f = and_parts (is_formed first) (is_formed second) formed in
      let d = and_parts (is_edged first) (is_edged second) edged in
      elim (in_either (pattern_tree opens closes first) (pattern_tree opens closes second) text h) [
        | inl one ↦ edge_first opens closes first second text (to_edge opens closes first f.0 d.0 text one)
        | inr two ↦ edge_second opens closes first second text (to_edge opens closes second f.1 d.1 text two)
      ]

  to_part : (e : Expression) → is_formed e ≡ true → is_edged e ≡ true → is_piece e ≡ true → has_begin e ≡ false → has_end e ≡ false → (text : List ℕ) → InPart (part_tree e) text → Matches e [] text []
  to_part blank formed edged piece nb ne text h = absurd (false≢true piece)
  to_part (symbol byte) formed edged piece nb ne text h = in_symbol byte text h
  to_part period formed edged piece nb ne text h = in_dot text h
  to_part (bracketed negated first others) formed edged piece nb ne text h = in_bracket negated first others text h
  to_part begin formed edged piece nb ne text h = absurd (false≢true piece)
  to_part end formed edged piece nb ne text h = absurd (false≢true piece)
  to_part (subexpression inner) formed edged piece nb ne text h =
      edge_alone inner text (to_edge false false inner formed edged text (in_group (pattern_tree false false inner) text h))
  to_part (duplicated part repeats) formed edged piece nb ne text h =
      let said = often part repeats formed edged in
      repeated_fits part repeats said (to_part part said.formed said.edged said.piece said.no_begin said.no_end) text h [] []
  to_part (concatenated first second) formed edged piece nb ne text h = absurd (false≢true piece)
  to_part (alternated first second) formed edged piece nb ne text h = absurd (false≢true piece)

-- ---- what matches the pattern holds

mutual
  pub of_edge : (opens closes : Bool) (e : Expression) → is_formed e ≡ true → is_edged e ≡ true → (text : List ℕ) → is_text text ≡ true → Edge opens closes e text → InAlternatives (pattern_tree opens closes e) text
  of_edge opens closes blank formed edged text texts d =
      single_in (any_sequence (opens || closes)) text (stands_any (opens || closes) text texts (blank_edge opens closes text d))
  of_edge opens closes (symbol byte) formed edged text texts d =
      single_in (around_part opens (once (symbol_atom byte)) closes) text
      (around_in opens closes (once (symbol_atom byte)) text texts
      (around_edge opens closes (InPart (once (symbol_atom byte))) (symbol byte) text texts (λ before part after here is. symbol_in byte part formed is) d))
  of_edge opens closes period formed edged text texts d =
      single_in (around_part opens (once dot) closes) text
      (around_in opens closes (once dot) text texts
      (around_edge opens closes (InPart (once dot)) period text texts (λ before part after here fits. dot_in part fits.0 (one_text part fits.0 here fits.1) fits.1) d))
  of_edge opens closes (bracketed negated first others) formed edged text texts d =
      let part : Repetition = once (bracket negated (item_of first) (items_of others)) in
      single_in (around_part opens part closes) text
      (around_in opens closes part text texts
      (around_edge opens closes (InPart part) (bracketed negated first others) text texts
      (λ before t after here fits. bracket_in negated first others t fits.0 (one_text t fits.0 here fits.1) fits.1 fits.2) d))
  of_edge opens closes begin formed edged text texts d =
      let same : text ≡ d.after = d.whole ∙ ap₂ (λ (x y : List ℕ). x ++ (y ++ d.after)) d.fits.1 d.fits.0 in
      single_in (any_sequence closes) text (stands_any closes text texts (subst (Stands closes) (sym same) d.closed))
  of_edge opens closes end formed edged text texts d =
      let same : text ≡ d.before = d.whole ∙ ap (λ (t : List ℕ). d.before ++ t) (nil_join d.part d.after d.fits.0 d.fits.1) ∙ append-nil d.before in
      single_in (any_sequence opens) text (stands_any opens text texts (subst (Stands opens) (sym same) d.opened))
  of_edge opens closes (subexpression inner) formed edged text texts d =
      let inside : Alternatives = pattern_tree (opens && has_begin inner) (closes && has_end inner) inner in
      single_in (around_part (opens && not (has_begin inner)) (in_parentheses inside) (closes && not (has_end inner))) text
      (around_in (opens && not (has_begin inner)) (closes && not (has_end inner)) (in_parentheses inside) text texts
      (around_texts (opens && not (has_begin inner)) (closes && not (has_end inner)) (Edge (opens && has_begin inner) (closes && has_end inner) inner) (InPart (in_parentheses inside)) text texts
      (λ part here held. group_in inside part (of_edge (opens && has_begin inner) (closes && has_end inner) inner formed edged part here held))
      (disclosed opens closes inner text d)))
  of_edge opens closes (duplicated part repeats) formed edged text texts d =
      let said = often part repeats formed edged in
      let whole : Repetition = repeated_part repeats (part_tree part) in
      single_in (around_part (opens && not (is_run part repeats)) whole (closes && not (is_run part repeats))) text
      (around_in (opens && not (is_run part repeats)) (closes && not (is_run part repeats)) whole text texts
      (repeated_around part repeats said (of_part part said.formed said.edged said.piece) opens closes text texts d))
  of_edge opens closes (concatenated first second) formed edged text texts d =
      let said = both first second formed edged in
      let left : Alternatives = pattern_tree opens false first in
      let right : Alternatives = pattern_tree false closes second in
      let cut = edge_concatenated opens closes first second text said d in
      let here = text_parts cut.front cut.back (ap is_text (sym cut.split) ∙ texts) in
      single_in (append (as_sequence left) (as_sequence right)) text
      (append_in (as_sequence left) (as_sequence right) text (
        cut.front,
        cut.back,
        cut.split,
        sequence_in left cut.front (of_edge opens false first said.formed_first said.edged_first cut.front here.0 cut.one),
        sequence_in right cut.back (of_edge false closes second said.formed_second said.edged_second cut.back here.1 cut.two),
      ))
  of_edge opens closes (alternated first second) formed edged text texts d =
      let f = and_parts (is_formed first) (is_formed second) formed in
      let g = and_parts (is_edged first) (is_edged second) edged in
      either_in (pattern_tree opens closes first) (pattern_tree opens closes second) text
      (elim (edge_alternated opens closes first second text d) [
        | inl one ↦ inl (of_edge opens closes first f.0 g.0 text texts one)
        | inr two ↦ inr (of_edge opens closes second f.1 g.1 text texts two)
      ])

  of_part : (e : Expression) → is_formed e ≡ true → is_edged e ≡ true → is_piece e ≡ true → (text : List ℕ) → is_text text ≡ true → Matches e [] text [] → InPart (part_tree e) text
  of_part blank formed edged piece text texts h = absurd (false≢true piece)
  of_part (symbol byte) formed edged piece text texts h = symbol_in byte text formed h
  of_part period formed edged piece text texts h = dot_in text h.0 (one_text text h.0 texts h.1) h.1
  of_part (bracketed negated first others) formed edged piece text texts h = bracket_in negated first others text h.0 (one_text text h.0 texts h.1) h.1 h.2
  of_part begin formed edged piece text texts h = absurd (false≢true piece)
  of_part end formed edged piece text texts h = absurd (false≢true piece)
  of_part (subexpression inner) formed edged piece text texts h =
      group_in (pattern_tree false false inner) text (of_edge false false inner formed edged text texts (alone_edge inner text h))
  of_part (duplicated part repeats) formed edged piece text texts h =
      let said = often part repeats formed edged in
      fits_repeated part repeats said (of_part part said.formed said.edged said.piece) [] text [] texts h
  of_part (concatenated first second) formed edged piece text texts h = absurd (false≢true piece)
  of_part (alternated first second) formed edged piece text texts h = absurd (false≢true piece)
