-- What was read is spelled so: the levels of a reading.
use Rattle.std.proofs.Common.{◌≡◌, ◌⊎◌, ℕ, Bool, true, false, ◌&&◌, ◌||◌, not, eqb, cond, Option, Some, None, List, [], ◌∷◌, ◌++◌, refl, sym, ap, subst, ◌∙◌, inl, inr, append_assoc, append-nil}
use Rattle.std.specs.List.{list_all}
use Rattle.std.proofs.lemmas.Bool.{and_from, or_parts, or_from, or_left, or_right, not_from_false, true≢false, false≢true, eq-eqb}
use Rattle.std.proofs.lemmas.List.Folds.{list_all-append}
use Rattle.posix_expression.specs.declared.tree.Repeats.{Repeats}
use Rattle.posix_expression.specs.declared.unsaid.Unsaid.TheVariants as why
use Rattle.posix_expression.specs.Syntax.{Expression, blank, symbol, period, bracketed, begin, end, subexpression, duplicated, concatenated, alternated, is_blank, is_begin, is_end, is_alternated, is_piece, is_formed, is_formed_count, has_begin, has_end, is_edged, SpelledAnchor, SpelledRepeats, Spelled}
use Rattle.posix_expression.specs.Reading.{Level, fresh, joined, with_alternative, finished, added, is_closed_to, with_part, with_begin, with_end, has_nothing_last, is_anchored_last, with_repeats, with_bar}
use Rattle.posix_expression.proofs.Steps.{given, refused, given_is, not_given, unless}

-- ---- kinds of expressions

pub record Said (e : Expression) : Type 0 where
  pub formed : is_formed e ≡ true
  pub edged : is_edged e ≡ true
  pub branch : is_alternated e ≡ false

blank_is : (e : Expression) → is_blank e ≡ true → e ≡ blank
blank_is blank is = refl
blank_is (symbol byte) is = absurd (false≢true is)
blank_is period is = absurd (false≢true is)
blank_is (bracketed negated first others) is = absurd (false≢true is)
blank_is begin is = absurd (false≢true is)
blank_is end is = absurd (false≢true is)
blank_is (subexpression inner) is = absurd (false≢true is)
blank_is (duplicated part repeats) is = absurd (false≢true is)
blank_is (concatenated first second) is = absurd (false≢true is)
blank_is (alternated first second) is = absurd (false≢true is)

end_has : (e : Expression) → is_end e ≡ true → has_end e ≡ true
end_has end is = refl
end_has blank is = absurd (false≢true is)
end_has (symbol byte) is = absurd (false≢true is)
end_has period is = absurd (false≢true is)
end_has (bracketed negated first others) is = absurd (false≢true is)
end_has begin is = absurd (false≢true is)
end_has (subexpression inner) is = absurd (false≢true is)
end_has (duplicated part repeats) is = absurd (false≢true is)
end_has (concatenated first second) is = absurd (false≢true is)
end_has (alternated first second) is = absurd (false≢true is)

begin_is : (e : Expression) → is_begin e ≡ true → e ≡ begin
begin_is begin is = refl
begin_is blank is = absurd (false≢true is)
begin_is (symbol byte) is = absurd (false≢true is)
begin_is period is = absurd (false≢true is)
begin_is (bracketed negated first others) is = absurd (false≢true is)
begin_is end is = absurd (false≢true is)
begin_is (subexpression inner) is = absurd (false≢true is)
begin_is (duplicated part repeats) is = absurd (false≢true is)
begin_is (concatenated first second) is = absurd (false≢true is)
begin_is (alternated first second) is = absurd (false≢true is)

end_is : (e : Expression) → is_end e ≡ true → e ≡ end
end_is end is = refl
end_is blank is = absurd (false≢true is)
end_is (symbol byte) is = absurd (false≢true is)
end_is period is = absurd (false≢true is)
end_is (bracketed negated first others) is = absurd (false≢true is)
end_is begin is = absurd (false≢true is)
end_is (subexpression inner) is = absurd (false≢true is)
end_is (duplicated part repeats) is = absurd (false≢true is)
end_is (concatenated first second) is = absurd (false≢true is)
end_is (alternated first second) is = absurd (false≢true is)

piece_branch : (e : Expression) → is_piece e ≡ true → is_alternated e ≡ false
piece_branch (alternated first second) is = absurd (false≢true is)
piece_branch blank is = refl
piece_branch (symbol byte) is = refl
piece_branch period is = refl
piece_branch (bracketed negated first others) is = refl
piece_branch begin is = refl
piece_branch end is = refl
piece_branch (subexpression inner) is = refl
piece_branch (duplicated part repeats) is = refl
piece_branch (concatenated first second) is = refl

piece_some : (e : Expression) → is_piece e ≡ true → (is_blank e || is_begin e) ≡ false
piece_some blank is = absurd (false≢true is)
piece_some begin is = absurd (false≢true is)
piece_some (symbol byte) is = refl
piece_some period is = refl
piece_some (bracketed negated first others) is = refl
piece_some end is = refl
piece_some (subexpression inner) is = refl
piece_some (duplicated part repeats) is = refl
piece_some (concatenated first second) is = refl
piece_some (alternated first second) is = refl

-- ---- one after the other

-- where both may stand so
pub record Meets (first second : Expression) : Type 0 where
  pub begins : (is_blank first ≡ true) ⊎ ((is_begin first ≡ true) ⊎ (has_begin second ≡ false))
  pub ends : (is_end second ≡ true) ⊎ (has_end first ≡ false)

joined_spelled : (first second : Expression) (front back : List ℕ) → Spelled first front → Spelled second back → Spelled (joined first second) (front ++ back)
unfolding joined
joined_spelled first second front back one two = by (is_blank first) (is_blank second) refl refl
  where
    by : (a b : Bool) → is_blank first ≡ a → is_blank second ≡ b → Spelled (cond a second (cond b first (concatenated first second))) (front ++ back)
    by true b is ib =
        let nil : front ≡ [] = subst (λ (e : Expression). Spelled e front) (blank_is first is) one in
        subst (λ (t : List ℕ). Spelled second (t ++ back)) (sym nil) two
    by false true is ib =
        let nil : back ≡ [] = subst (λ (e : Expression). Spelled e back) (blank_is second ib) two in
        subst (λ (t : List ℕ). Spelled first (front ++ t)) (sym nil) (subst (Spelled first) (sym (append-nil front)) one)
    by false false is ib = (front, back, refl, one, two)

or_so : (a b : Bool) → (a ≡ true) ⊎ (b ≡ false) → (a || not b) ≡ true
or_so a b (inl h) = or_left a (not b) h
or_so a b (inr h) = or_right a (not b) (not_from_false b h)

joined_said : (first second : Expression) → Said first → Said second → Meets first second → Said (joined first second)
unfolding joined
joined_said first second one two meets = by (is_blank first) (is_blank second) refl
  where
    begins_so : is_blank first ≡ false → (is_begin first ≡ true) ⊎ (has_begin second ≡ false)
    begins_so some =
        elim meets.begins [
          | inl is ↦ absurd (true≢false (sym is ∙ some))
          | inr h ↦ h
        ]

    by : (a b : Bool) → is_blank first ≡ a → Said (cond a second (cond b first (concatenated first second)))
    by true b is = two
    by false true is = one
    by false false is = record {
      formed =
          and_from (is_formed first) (is_formed second && (not (is_alternated first) && not (is_alternated second))) one.formed
          (and_from (is_formed second) (not (is_alternated first) && not (is_alternated second)) two.formed
          (and_from (not (is_alternated first)) (not (is_alternated second)) (not_from_false (is_alternated first) one.branch) (not_from_false (is_alternated second) two.branch)));
      edged =
          and_from (is_edged first) (is_edged second && ((is_begin first || not (has_begin second)) && (is_end second || not (has_end first)))) one.edged
          (and_from (is_edged second) ((is_begin first || not (has_begin second)) && (is_end second || not (has_end first))) two.edged
          (and_from (is_begin first || not (has_begin second)) (is_end second || not (has_end first)) (or_so (is_begin first) (has_begin second) (begins_so is)) (or_so (is_end second) (has_end first) meets.ends)));
      branch = refl;
    }

joined_no_end : (first second : Expression) → Meets first second → has_end second ≡ false → has_end (joined first second) ≡ false
unfolding joined
joined_no_end first second meets none = by (is_blank first) (is_blank second)
  where
    no_first : has_end first ≡ false
    no_first =
        elim meets.ends [
          | inl is ↦ absurd (true≢false (sym (end_has second is) ∙ none))
          | inr h ↦ h
        ]

    by : (a b : Bool) → has_end (cond a second (cond b first (concatenated first second))) ≡ false
    by true b = none
    by false true = no_first
    by false false = or_from (has_end first) (has_end second) no_first none

-- nothing stands before it
alone_joined : (second : Expression) → joined blank second ≡ second
unfolding joined
alone_joined second = refl

-- ---- what spells a level

pub DoneSpells : Option Expression → List ℕ → Type 0
DoneSpells None text = text ≡ []
DoneSpells (Some done) text =
    (inner : List ℕ) × (text ≡ inner ++ 124 ∷ []) × Spelled done inner × (is_formed done ≡ true) × (is_edged done ≡ true)

pub record LevelSpells (level : Level) (text : List ℕ) : Type 0 where
  pub front : List ℕ
  pub middle : List ℕ
  pub back : List ℕ
  pub whole : text ≡ front ++ (middle ++ back)
  pub done_spelled : DoneSpells level.done front
  pub before_spelled : Spelled level.before middle
  pub last_spelled : Spelled level.last back
  pub before_said : Said level.before
  pub last_said : Said level.last
  pub meets : Meets level.before level.last
  -- what stands first has nothing before it
  pub alone : (is_blank level.last || is_begin level.last) ≡ true → level.before ≡ blank
  pub kind : (is_blank level.last || (is_begin level.last || (is_end level.last || is_piece level.last))) ≡ true

pub fresh_spells : LevelSpells fresh []
unfolding DoneSpells
fresh_spells = record {
  front = [];
  middle = [];
  back = [];
  whole = refl;
  done_spelled = refl;
  before_spelled = refl;
  last_spelled = refl;
  before_said = record { formed = refl; edged = refl; branch = refl };
  last_said = record { formed = refl; edged = refl; branch = refl };
  meets = record { begins = inl refl; ends = inr refl };
  alone = λ is. refl;
  kind = refl;
}

-- one more part
added_spells : (level : Level) (text : List ℕ) (part : Expression) (more : List ℕ) → LevelSpells level text → Said part → Spelled part more
    → Meets (joined level.before level.last) part → (is_blank part || is_begin part) ≡ false → (is_end part || is_piece part) ≡ true → LevelSpells (added level part) (text ++ more)
added_spells level text part more s said spelled meets some kind = record {
  front = s.front;
  middle = s.middle ++ s.back;
  back = more;
  whole = ap (λ (t : List ℕ). t ++ more) s.whole ∙ append_assoc s.front (s.middle ++ s.back) more;
  done_spelled = s.done_spelled;
  before_spelled = joined_spelled level.before level.last s.middle s.back s.before_spelled s.last_spelled;
  last_spelled = spelled;
  before_said = joined_said level.before level.last s.before_said s.last_said s.meets;
  last_said = said;
  meets = meets;
  alone = λ is. absurd (true≢false (sym is ∙ some));
  kind = or_right (is_blank part) (is_begin part || (is_end part || is_piece part)) (or_right (is_begin part) (is_end part || is_piece part) kind);
}

pub part_spells : (level next : Level) (text : List ℕ) (part : Expression) (more : List ℕ) → LevelSpells level text → is_formed part ≡ true → is_edged part ≡ true → is_piece part ≡ true
    → Spelled part more → with_part level part ≡ given next → LevelSpells next (text ++ more)
unfolding with_part
part_spells level next text part more s formed edged piece spelled is =
    let open_to = unless (is_closed_to level part) why.InnerAnchor (given (added level part)) next is in
    let parts = or_parts (has_end level.last) (has_begin part && not (is_blank level.last) && not (is_begin level.last)) open_to.0 in
    let said : Said part = record { formed = formed; edged = edged; branch = piece_branch part piece } in
    let meets : Meets (joined level.before level.last) part = record {
      begins = begins_so parts.1;
      ends = inr (joined_no_end level.before level.last s.meets parts.0);
    } in
    subst (λ (l : Level). LevelSpells l (text ++ more)) (given_is (added level part) next open_to.1)
    (added_spells level text part more s said spelled meets (piece_some part piece) (or_right (is_end part) (is_piece part) piece))
  where
    by : (p q r : Bool) → has_begin part ≡ p → is_blank level.last ≡ q → is_begin level.last ≡ r → ((p && not q) && not r) ≡ false
        → (is_blank (joined level.before level.last) ≡ true) ⊎ ((is_begin (joined level.before level.last) ≡ true) ⊎ (has_begin part ≡ false))
    by false q r hp hq hr h = inr (inr hp)
    by true true r hp hq hr h =
        let nothing_before : level.before ≡ blank = s.alone (or_left (is_blank level.last) (is_begin level.last) hq) in
        inl (ap (λ (e : Expression). is_blank (joined e level.last)) nothing_before ∙ ap is_blank (alone_joined level.last) ∙ hq)
    by true false true hp hq hr h =
        let nothing_before : level.before ≡ blank = s.alone (or_right (is_blank level.last) (is_begin level.last) hr) in
        inr (inl (ap (λ (e : Expression). is_begin (joined e level.last)) nothing_before ∙ ap is_begin (alone_joined level.last) ∙ hr))
    by true false false hp hq hr h = absurd (true≢false h)

    begins_so : (has_begin part && not (is_blank level.last) && not (is_begin level.last)) ≡ false
        → (is_blank (joined level.before level.last) ≡ true) ⊎ ((is_begin (joined level.before level.last) ≡ true) ⊎ (has_begin part ≡ false))
    begins_so h = by (has_begin part) (is_blank level.last) (is_begin level.last) refl refl refl h

-- ---- anchors

anchor_more : (sign : ℕ) (text : List ℕ) → SpelledAnchor sign text → SpelledAnchor sign (text ++ sign ∷ [])
anchor_more sign text (more, is, all) = (
  more ++ sign ∷ [],
  ap (λ (t : List ℕ). t ++ sign ∷ []) is,
  list_all-append (λ byte. eqb byte sign) more (sign ∷ []) ∙ and_from (list_all (λ byte. eqb byte sign) more) (list_all (λ byte. eqb byte sign) (sign ∷ [])) all (and_from (eqb sign sign) true (eq-eqb sign sign refl) refl),
)

one_anchor : (sign : ℕ) → SpelledAnchor sign (sign ∷ [])
one_anchor sign = ([], refl, refl)

-- what was last, with more text
last_spells : (level : Level) (last : Expression) (text more : List ℕ) → (s : LevelSpells level text) → Said last → Spelled last (s.back ++ more) → Meets level.before last
    → ((is_blank last || is_begin last) ≡ true → level.before ≡ blank) → (is_blank last || (is_begin last || (is_end last || is_piece last))) ≡ true
    → LevelSpells (record { done = level.done; before = level.before; last = last }) (text ++ more)
last_spells level last text more s said spelled meets alone kind = record {
  front = s.front;
  middle = s.middle;
  back = s.back ++ more;
  whole = ap (λ (t : List ℕ). t ++ more) s.whole ∙ regroup s.front s.middle s.back more;
  done_spelled = s.done_spelled;
  before_spelled = s.before_spelled;
  last_spelled = spelled;
  before_said = s.before_said;
  last_said = said;
  meets = meets;
  alone = alone;
  kind = kind;
}
  where
    regroup : (a b c d : List ℕ) → (a ++ (b ++ c)) ++ d ≡ a ++ (b ++ (c ++ d))
    regroup a b c d = simp append_assoc

said_begin : Said begin
said_begin = record { formed = refl; edged = refl; branch = refl }

said_end : Said end
said_end = record { formed = refl; edged = refl; branch = refl }

pub begin_spells : (level next : Level) (text : List ℕ) → LevelSpells level text → with_begin level ≡ given next → LevelSpells next (text ++ 94 ∷ [])
unfolding with_begin
begin_spells level next text s is = by (is_begin level.last) (is_blank level.last) refl refl is
  where
    with_last : Level
    with_last = record { done = level.done; before = level.before; last = begin }

    by : (b c : Bool) → is_begin level.last ≡ b → is_blank level.last ≡ c
        → cond b (given level) (cond c (given (record { done = level.done; before = level.before; last = begin })) (refused why.InnerAnchor)) ≡ given next → LevelSpells next (text ++ 94 ∷ [])
    by true c hb hc e =
        let same = begin_is level.last hb in
        let spelled : Spelled begin (s.back ++ 94 ∷ []) = anchor_more 94 s.back (subst (λ (l : Expression). Spelled l s.back) same s.last_spelled) in
        let whole = last_spells level level.last text (94 ∷ []) s s.last_said (subst (λ (l : Expression). Spelled l (s.back ++ 94 ∷ [])) (sym same) spelled) s.meets s.alone s.kind in
        subst (λ (l : Level). LevelSpells l (text ++ 94 ∷ [])) (given_is level next e) whole
    by false true hb hc e =
        let nil : s.back ≡ [] = subst (λ (l : Expression). Spelled l s.back) (blank_is level.last hc) s.last_spelled in
        let spelled : Spelled begin (s.back ++ 94 ∷ []) = subst (λ (t : List ℕ). Spelled begin (t ++ 94 ∷ [])) (sym nil) (one_anchor 94) in
        let before_blank : level.before ≡ blank = s.alone (or_left (is_blank level.last) (is_begin level.last) hc) in
        let meets : Meets level.before begin = record { begins = inl (ap is_blank before_blank); ends = inr (ap has_end before_blank) } in
        subst (λ (l : Level). LevelSpells l (text ++ 94 ∷ [])) (given_is (record { done = level.done; before = level.before; last = begin }) next e)
        (last_spells level begin text (94 ∷ []) s said_begin spelled meets (λ t. before_blank) refl)
    by false false hb hc e = absurd (not_given why.InnerAnchor next e)

pub end_spells : (level : Level) (text : List ℕ) → LevelSpells level text → LevelSpells (with_end level) (text ++ 36 ∷ [])
unfolding with_end
end_spells level text s = by (is_end level.last) refl
  where
    by : (b : Bool) → is_end level.last ≡ b → LevelSpells (cond b level (added level end)) (text ++ 36 ∷ [])
    by true hb =
        let same = end_is level.last hb in
        let spelled : Spelled end (s.back ++ 36 ∷ []) = anchor_more 36 s.back (subst (λ (l : Expression). Spelled l s.back) same s.last_spelled) in
        last_spells level level.last text (36 ∷ []) s s.last_said (subst (λ (l : Expression). Spelled l (s.back ++ 36 ∷ [])) (sym same) spelled) s.meets s.alone s.kind
    by false hb = added_spells level text end (36 ∷ []) s said_end (one_anchor 36) (record { begins = inr (inr refl); ends = inl refl }) refl refl

-- ---- repeats

pub repeats_spell : (level next : Level) (text : List ℕ) (repeats : Repeats) (more : List ℕ) → LevelSpells level text → is_formed_count repeats ≡ true → SpelledRepeats repeats more
    → with_repeats level repeats ≡ given next → LevelSpells next (text ++ more)
unfolding with_repeats
repeats_spell level next text repeats more s count spelled is =
    let outer = unless (has_nothing_last level) why.NothingToRepeat _ next is in
    let inner = unless (is_anchored_last level) why.InnerAnchor (given (record { done = level.done; before = level.before; last = duplicated level.last repeats })) next outer.1 in
    let some = or_parts (is_blank level.last || is_begin level.last) (is_end level.last) outer.0 in
    let none = or_parts (has_begin level.last) (has_end level.last) inner.0 in
    let parts = or_parts (is_blank level.last) (is_begin level.last) some.0 in
    let piece : is_piece level.last ≡ true = last_piece (is_blank level.last) (is_begin level.last) (is_end level.last) parts.0 parts.1 some.1 s.kind in
    let said : Said (duplicated level.last repeats) = record {
      formed = and_from (is_formed level.last) (is_piece level.last && is_formed_count repeats) s.last_said.formed (and_from (is_piece level.last) (is_formed_count repeats) piece count);
      edged =
          and_from (is_edged level.last && not (has_begin level.last)) (not (has_end level.last))
          (and_from (is_edged level.last) (not (has_begin level.last)) s.last_said.edged (not_from_false (has_begin level.last) none.0))
          (not_from_false (has_end level.last) none.1);
      branch = refl;
    } in
    let meets : Meets level.before (duplicated level.last repeats) = record { begins = inr (inr none.0); ends = ends_so some.1 s.meets.ends } in
    subst (λ (l : Level). LevelSpells l (text ++ more)) (given_is (record { done = level.done; before = level.before; last = duplicated level.last repeats }) next inner.1)
    (last_spells level (duplicated level.last repeats) text more s said (s.back, more, refl, s.last_spelled, spelled) meets (λ t. absurd (false≢true t)) refl)
  where
    last_piece : (b g n : Bool) → b ≡ false → g ≡ false → n ≡ false → (b || (g || (n || is_piece level.last))) ≡ true → is_piece level.last ≡ true
    last_piece true g n hb hg hn h = absurd (true≢false hb)
    last_piece false true n hb hg hn h = absurd (true≢false hg)
    last_piece false false true hb hg hn h = absurd (true≢false hn)
    last_piece false false false hb hg hn h = h

    ends_so : is_end level.last ≡ false → (is_end level.last ≡ true) ⊎ (has_end level.before ≡ false) → (is_end (duplicated level.last repeats) ≡ true) ⊎ (has_end level.before ≡ false)
    ends_so none (inl is_so) = absurd (true≢false (sym is_so ∙ none))
    ends_so none (inr h) = inr h

-- ---- alternatives

pub record Whole (e : Expression) (text : List ℕ) : Type 0 where
  pub formed : is_formed e ≡ true
  pub edged : is_edged e ≡ true
  pub spelled : Spelled e text

with_done : (done : Option Expression) (front : List ℕ) (e : Expression) (text : List ℕ) → DoneSpells done front → Said e → Spelled e text → Whole (with_alternative done e) (front ++ text)
unfolding DoneSpells with_alternative
with_done None front e text d said spelled = record { formed = said.formed; edged = said.edged; spelled = subst (λ (t : List ℕ). Spelled e (t ++ text)) (sym d) spelled }
with_done (Some done) front e text (inner, whole, inside, formed, edged) said spelled = record {
  formed = and_from (is_formed done) (is_formed e) formed said.formed;
  edged = and_from (is_edged done) (is_edged e) edged said.edged;
  spelled = (inner, text, ap (λ (t : List ℕ). t ++ text) whole ∙ append_assoc inner (124 ∷ []) text, inside, spelled);
}

pub finished_spells : (level : Level) (text : List ℕ) → LevelSpells level text → Whole (finished level) text
unfolding finished
finished_spells level text s =
    subst (Whole (with_alternative level.done (joined level.before level.last))) (sym s.whole)
    (with_done level.done s.front (joined level.before level.last) (s.middle ++ s.back) s.done_spelled (joined_said level.before level.last s.before_said s.last_said s.meets)
    (joined_spelled level.before level.last s.middle s.back s.before_spelled s.last_spelled))

pub bar_spells : (level : Level) (text : List ℕ) → LevelSpells level text → LevelSpells (with_bar level) (text ++ 124 ∷ [])
unfolding with_bar DoneSpells
bar_spells level text s =
    let whole = finished_spells level text s in
    record {
      front = text ++ 124 ∷ [];
      middle = [];
      back = [];
      whole = sym (append-nil (text ++ 124 ∷ []));
      done_spelled = (text, refl, whole.spelled, whole.formed, whole.edged);
      before_spelled = refl;
      last_spelled = refl;
      before_said = record { formed = refl; edged = refl; branch = refl };
      last_said = record { formed = refl; edged = refl; branch = refl };
      meets = record { begins = inl refl; ends = inr refl };
      alone = λ is. refl;
      kind = refl;
    }
