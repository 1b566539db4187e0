-- What is read is spelled so.
use Rattle.std.proofs.Common.{◌≡◌, ◌⊎◌, ℕ, zero, suc, ◌≤◌, Bool, true, false, ◌&&◌, ◌||◌, not, eqb, leb, ltb, cond, Option, Some, None, List, [], ◌∷◌, ◌++◌, length, length-append, drop, Result, refl, sym, ap, subst, ◌∙◌, inl, inr, append_assoc, append-nil, arith}
use Rattle.std.specs.Prelude.{slice_index}
use Rattle.std.specs.List.{list_all}
use Rattle.std.specs.Option.{option_map, option_map_or}
use Rattle.std.proofs.lemmas.Bool.{and_parts, and_from, or_parts, not_from_false, false≢true, eqb-true, leb-true, ltb-false, le-leb}
use Rattle.basics.specs.Symbol.{is_symbol}
use Rattle.basics.specs.Number.{number_of}
use Rattle.basics.specs.Lines.{split_at_first}
use Rattle.posix_expression.specs.declared.tree.Item.{Item}
use Rattle.posix_expression.specs.declared.tree.Item.TheVariants.{One, Range}
use Rattle.posix_expression.specs.declared.tree.Repeats.{Repeats}
use Rattle.posix_expression.specs.declared.tree.Repeats.TheVariants.{Any, More, Optional, Between, AtLeast}
use Rattle.posix_expression.specs.declared.unsaid.Unsaid.{Unsaid}
use Rattle.posix_expression.specs.declared.unsaid.Unsaid.TheVariants as why
use Rattle.posix_expression.specs.Syntax.{Expression, symbol, period, bracketed, subexpression, is_formed, is_formed_item, is_formed_count, is_edged, is_piece, is_special, is_reserved, item_text, items_text, negation_text, begins_with_bracket, SpelledRepeats, Spelled, Spells}
use Rattle.posix_expression.specs.Reading.{◌>>=◌, escaped_at, begins_name, begins_range, range_of, item_at, ends_class, items_within, members_at, bracketed_at, number_in, repeats_of, repeats_in, repeats_at, Level, State, fresh, start, finished, with_part, with_begin, with_end, with_repeats, with_bar, opened, closed_by, closed, in_level, with_symbol, with_sign, and_rest, step, ended_by, ended, read_within, reading}
use Rattle.posix_expression.proofs.Steps.{given, refused, given_is, not_given, bind_given, chosen, unless, where_so, map_given}
use Rattle.posix_expression.proofs.Levels.{LevelSpells, fresh_spells, part_spells, begin_spells, end_spells, repeats_spell, bar_spells, Whole, finished_spells}

-- ---- what follows a `\`

record Escaped (text : List ℕ) (found : ℕ × List ℕ) : Type 0 where
  here : text ≡ found.0 ∷ found.1
  plain : is_reserved found.0 ≡ false
  printable : is_symbol found.0 ≡ true

escaped_so : (text : List ℕ) (found : ℕ × List ℕ) → escaped_at text ≡ given found → Escaped text found
unfolding escaped_at
escaped_so [] found is = absurd (not_given why.Escape found is)
escaped_so (byte ∷ rest) found is =
    let a = unless (leb 49 byte && leb byte 57) why.Reference _ found is in
    let b = unless (is_reserved byte) why.Escape _ found a.1 in
    let c = where_so (is_symbol byte) why.NotSymbol (given (byte, rest)) found b.1 in
    let same = given_is (byte, rest) found c.1 in
    subst (Escaped (byte ∷ rest)) same (record { here = refl; plain = b.0; printable = c.0 })

-- ---- classes

record Taken (text : List ℕ) (found : Item × List ℕ) : Type 0 where
  here : text ≡ item_text found.0 ++ found.1
  formed : is_formed_item found.0 ≡ true

-- two bytes stand there
two_there : (rest : List ℕ) → leb 2 (length rest) ≡ true → rest ≡ slice_index rest 0 ∷ slice_index rest 1 ∷ drop 2 rest
two_there [] h = absurd (omega (arith, leb-true 2 0 h))
two_there (a ∷ []) h = absurd (omega (arith, leb-true 2 1 h))
two_there (a ∷ b ∷ rest) h = refl

range_so : (first last : ℕ) (rest : List ℕ) (found : Item × List ℕ) → range_of first last rest ≡ given found → Taken (first ∷ 45 ∷ last ∷ rest) found
unfolding range_of
range_so first last rest found is =
    let a = unless (ltb last first || eqb last 91 || begins_range rest) why.BadClass _ found is in
    let b = where_so (is_symbol first && is_symbol last) why.NotSymbol (given (Range first last, rest)) found a.1 in
    let order = (or_parts (ltb last first) (eqb last 91) (or_parts (ltb last first || eqb last 91) (begins_range rest) a.0).0).0 in
    subst (Taken (first ∷ 45 ∷ last ∷ rest)) (given_is (Range first last, rest) found b.1)
    (record { here = refl; formed = and_from (is_symbol first && is_symbol last) (leb first last) b.0 (le-leb first last (ltb-false last first order)) })

item_so : (text : List ℕ) (found : Item × List ℕ) → item_at text ≡ given found → Taken text found
unfolding item_at
item_so [] found is = absurd (not_given why.BadClass found is)
item_so (byte ∷ rest) found is =
    let a = unless (begins_name byte rest) why.NamedClass _ found is in
    elim (chosen (begins_range rest) (range_of byte (slice_index rest 1) (drop 2 rest)) (cond (is_symbol byte) (given (One byte, rest)) (refused why.NotSymbol)) (given found) a.1) [
      | inl some ↦
          let parts = and_parts (leb 2 (length rest) && eqb (slice_index rest 0) 45) (not (eqb (slice_index rest 1) 93)) some.0 in
          let sign = and_parts (leb 2 (length rest)) (eqb (slice_index rest 0) 45) parts.0 in
          let dash : slice_index rest 0 ≡ 45 = eqb-true (slice_index rest 0) 45 sign.1 in
          let split : byte ∷ rest ≡ byte ∷ 45 ∷ slice_index rest 1 ∷ drop 2 rest =
          ap (λ (t : List ℕ). byte ∷ t) (two_there rest sign.0 ∙ ap (λ (d : ℕ). d ∷ slice_index rest 1 ∷ drop 2 rest) dash) in
          subst (λ (t : List ℕ). Taken t found) (sym split) (range_so byte (slice_index rest 1) (drop 2 rest) found some.1)
      | inr none ↦
          let b = where_so (is_symbol byte) why.NotSymbol (given (One byte, rest)) found none.1 in
          subst (Taken (byte ∷ rest)) (given_is (One byte, rest) found b.1) (record { here = refl; formed = b.0 })
    ]

record TakenAll (text : List ℕ) (found : List Item × List ℕ) : Type 0 where
  here : text ≡ items_text found.0 ++ 93 ∷ found.1
  formed : list_all is_formed_item found.0 ≡ true
  later : list_all (λ item. not (begins_with_bracket item)) found.0 ≡ true

-- an item and its text begin with one symbol
first_symbol : (item : Item) (rest : List ℕ) → slice_index (item_text item ++ rest) 0 ≡ slice_index (item_text item) 0
first_symbol (One byte) rest = refl
first_symbol (Range first last) rest = refl

some_text : (item : Item) (rest : List ℕ) → 1 ≤ length (item_text item ++ rest)
some_text (One byte) rest = omega arith
some_text (Range first last) rest = omega arith

one_there : (text : List ℕ) → (leb 1 (length text) && eqb (slice_index text 0) 93) ≡ true → text ≡ 93 ∷ drop 1 text
one_there [] h = absurd (false≢true h)
one_there (byte ∷ text) h = ap (λ (b : ℕ). b ∷ text) (eqb-true byte 93 (and_parts (leb 1 (length (byte ∷ text))) (eqb byte 93) h).1)

items_so : (most : ℕ) (text : List ℕ) (found : List Item × List ℕ) → items_within most text ≡ given found → TakenAll text found
unfolding items_within
items_so zero text found is = absurd (not_given why.BadClass found is)
items_so (suc most) text found is =
    elim (chosen (ends_class text) (given ([], drop 1 text)) _ (given found) is) [
      | inl last ↦
          subst (TakenAll text) (given_is ([], drop 1 text) found last.1)
          (record { here = one_there text last.0; formed = refl; later = refl })
      | inr more ↦
          let one = bind_given (item_at text) _ found more.1 in
          let others = bind_given (items_within most one.0.1) _ found one.2 in
          let item = item_so text one.0 one.1 in
          let rest = items_so most one.0.1 others.0 others.1 in
          let whole : text ≡ (item_text one.0.0 ++ items_text others.0.0) ++ 93 ∷ others.0.1 =
          item.here ∙ ap (λ (t : List ℕ). item_text one.0.0 ++ t) rest.here ∙ sym (append_assoc (item_text one.0.0) (items_text others.0.0) (93 ∷ others.0.1)) in
          subst (TakenAll text) (given_is (one.0.0 ∷ others.0.0, others.0.1) found others.2)
          (record {
            here = whole;
            formed = and_from (is_formed_item one.0.0) (list_all is_formed_item others.0.0) item.formed rest.formed;
            later =
                and_from (not (begins_with_bracket one.0.0)) (list_all (λ i. not (begins_with_bracket i)) others.0.0)
                (not_from_false (begins_with_bracket one.0.0) (no_bracket text one.0.0 one.0.1 item.here more.0)) rest.later;
          })
    ]
  where
    no_bracket : (text : List ℕ) (item : Item) (rest : List ℕ) → text ≡ item_text item ++ rest → (leb 1 (length text) && eqb (slice_index text 0) 93) ≡ false → begins_with_bracket item ≡ false
    no_bracket text item rest is none =
        let at : (leb 1 (length (item_text item ++ rest)) && eqb (slice_index (item_text item ++ rest) 0) 93) ≡ false =
        ap (λ (t : List ℕ). leb 1 (length t) && eqb (slice_index t 0) 93) (sym is) ∙ none in
        let there : leb 1 (length (item_text item ++ rest)) ≡ true = le-leb 1 (length (item_text item ++ rest)) (some_text item rest) in
        ap (λ (n : ℕ). eqb n 93) (sym (first_symbol item rest)) ∙ sym (ap (λ (b : Bool). b && eqb (slice_index (item_text item ++ rest) 0) 93) there) ∙ at

-- a part of an expression, and the text that spells it
record Part (before text : List ℕ) (found : Expression × List ℕ) : Type 0 where
  own : List ℕ
  here : text ≡ own ++ found.1
  formed : is_formed found.0 ≡ true
  edged : is_edged found.0 ≡ true
  piece : is_piece found.0 ≡ true
  spelled : Spelled found.0 (before ++ own)

members_so : (negated : Bool) (text : List ℕ) (found : Expression × List ℕ) → members_at negated text ≡ given found → Part (91 ∷ negation_text negated) text found
unfolding members_at
members_so negated text found is =
    let one = bind_given (item_at text) _ found is in
    let others = bind_given (items_within (length one.0.1) one.0.1) _ found one.2 in
    let item = item_so text one.0 one.1 in
    let rest = items_so (length one.0.1) one.0.1 others.0 others.1 in
    subst (Part (91 ∷ negation_text negated) text) (given_is (bracketed negated one.0.0 others.0.0, others.0.1) found others.2)
    (record {
      own = item_text one.0.0 ++ (items_text others.0.0 ++ 93 ∷ []);
      here =
          item.here ∙ ap (λ (t : List ℕ). item_text one.0.0 ++ t) rest.here
          ∙ regroup (item_text one.0.0) (items_text others.0.0) others.0.1;
      formed = and_from (is_formed_item one.0.0) (list_all is_formed_item others.0.0) item.formed rest.formed;
      edged = refl;
      piece = refl;
      spelled = (refl, rest.later);
    })
  where
    regroup : (a b c : List ℕ) → a ++ (b ++ 93 ∷ c) ≡ (a ++ (b ++ 93 ∷ [])) ++ c
    regroup a b c = simp append_assoc

caret_there : (text : List ℕ) → (leb 1 (length text) && eqb (slice_index text 0) 94) ≡ true → text ≡ 94 ∷ drop 1 text
caret_there [] h = absurd (false≢true h)
caret_there (byte ∷ text) h = ap (λ (b : ℕ). b ∷ text) (eqb-true byte 94 (and_parts (leb 1 (length (byte ∷ text))) (eqb byte 94) h).1)

bracketed_so : (text : List ℕ) (found : Expression × List ℕ) → bracketed_at text ≡ given found → Part (91 ∷ []) text found
unfolding bracketed_at
bracketed_so text found is =
    elim (chosen (leb 1 (length text) && eqb (slice_index text 0) 94) (members_at true (drop 1 text)) (members_at false text) (given found) is) [
      | inl negated ↦
          let part = members_so true (drop 1 text) found negated.1 in
          record {
            own = 94 ∷ part.own;
            here = caret_there text negated.0 ∙ ap (λ (t : List ℕ). 94 ∷ t) part.here;
            formed = part.formed;
            edged = part.edged;
            piece = part.piece;
            spelled = part.spelled;
          }
      | inr plain ↦ members_so false text found plain.1
    ]

-- ---- counts

record Number (digits : List ℕ) (n : ℕ) : Type 0 where
  read : number_of 9 digits ≡ Some n
  small : leb n 32 ≡ true

number_so : (digits : List ℕ) (n : ℕ) → number_in digits ≡ given n → Number digits n
unfolding number_in
number_so digits n is =
    let some = map_given (λ (number : ℕ). cond (leb number 32) (given number) (refused why.LargeCount)) (number_of 9 digits) why.BadCount n is in
    let fits = where_so (leb some.0 32) why.LargeCount (given some.0) n some.2 in
    subst (Number digits) (given_is some.0 n fits.1) (record { read = some.1; small = fits.0 })

-- what stands between braces
record Braced (text : List ℕ) (repeats : Repeats) : Type 0 where
  formed : is_formed_count repeats ≡ true
  spelled : SpelledRepeats repeats (123 ∷ (text ++ 125 ∷ []))

no_length : (text : List ℕ) → eqb (length text) 0 ≡ true → text ≡ []
no_length [] h = refl
no_length (byte ∷ text) h = absurd (omega (arith, eqb-true (length (byte ∷ text)) 0 h))

-- the place of a separator
split_so : (separator : ℕ) (text : List ℕ) (parts : List ℕ × List ℕ) → split_at_first separator text ≡ Some parts → text ≡ parts.0 ++ separator ∷ parts.1
split_so separator [] parts h = absurd cc
split_so separator (byte ∷ text) parts h = by (eqb byte separator) refl (split_at_first separator text) (split_so separator text) h
  where
    by : (b : Bool) → eqb byte separator ≡ b → (o : Option (List ℕ × List ℕ)) → ((p : List ℕ × List ℕ) → o ≡ Some p → text ≡ p.0 ++ separator ∷ p.1)
        → cond b (Some ([], text)) (option_map (λ p. (byte ∷ p.0, p.1)) o) ≡ Some parts → byte ∷ text ≡ parts.0 ++ separator ∷ parts.1
    by true e o below k =
        let is : parts ≡ ([], text) = cc in
        let same : byte ≡ separator = eqb-true byte separator e in
        rw (is, same) refl
    by false e None below k = absurd cc
    by false e (Some p) below k = let is : parts ≡ (byte ∷ p.0, p.1) = cc in rw is (ap (λ (rest : List ℕ). byte ∷ rest) (below p refl))

at_least : (lows highs : List ℕ) (low : ℕ) → Number lows low → highs ≡ [] → SpelledRepeats (AtLeast low) (123 ∷ ((lows ++ 44 ∷ highs) ++ 125 ∷ []))
at_least lows highs low number nil =
    (lows, ap (λ (h : List ℕ). 123 ∷ ((lows ++ 44 ∷ h) ++ 125 ∷ [])) nil ∙ ap (λ (t : List ℕ). 123 ∷ t) (append_assoc lows (44 ∷ []) (125 ∷ [])), number.read)

between_so : (lows highs : List ℕ) (low high : ℕ) → Number lows low → Number highs high → SpelledRepeats (Between low high) (123 ∷ ((lows ++ 44 ∷ highs) ++ 125 ∷ []))
between_so lows highs low high first second =
    inr (lows, highs, ap (λ (t : List ℕ). 123 ∷ t) (append_assoc lows (44 ∷ highs) (125 ∷ [])), first.read, second.read)

-- what the two numbers make
record Pair (lows highs : List ℕ) (repeats : Repeats) : Type 0 where
  low : ℕ
  first : Number lows low
  rest : ((highs ≡ []) × (repeats ≡ AtLeast low)) ⊎ ((high : ℕ) × Number highs high × (leb low high ≡ true) × (repeats ≡ Between low high))

pair_so : (lows highs : List ℕ) (repeats : Repeats) → repeats_of lows highs ≡ given repeats → Pair lows highs repeats
unfolding repeats_of
pair_so lows highs repeats is =
    let one = bind_given (number_in lows) _ repeats is in
    let first = number_so lows one.0 one.1 in
    elim (chosen (eqb (length highs) 0) (given (AtLeast one.0)) _ (given repeats) one.2) [
      | inl none ↦
          record { low = one.0; first = first; rest = inl (no_length highs none.0, sym (given_is (AtLeast one.0) repeats none.1)) }
      | inr some ↦
          let two = bind_given (number_in highs) _ repeats some.1 in
          let order = unless (ltb two.0 one.0) why.BadCount (given (Between one.0 two.0)) repeats two.2 in
          record {
            low = one.0;
            first = first;
            rest = inr (two.0, number_so highs two.0 two.1, le-leb one.0 two.0 (ltb-false two.0 one.0 order.0), sym (given_is (Between one.0 two.0) repeats order.1));
          }
    ]

two_numbers : (lows highs : List ℕ) (repeats : Repeats) → Pair lows highs repeats → Braced (lows ++ 44 ∷ highs) repeats
two_numbers lows highs repeats pair =
    elim pair.rest [
      | inl none ↦
          subst (Braced (lows ++ 44 ∷ highs)) (sym none.1) (record { formed = pair.first.small; spelled = at_least lows highs pair.low pair.first none.0 })
      | inr some ↦
          subst (Braced (lows ++ 44 ∷ highs)) (sym some.3)
          (record { formed = and_from (leb pair.low some.0) (leb some.0 32) some.2 some.1.small; spelled = between_so lows highs pair.low some.0 pair.first some.1 })
    ]

some_number : (n : ℕ) → number_of 9 [] ≡ Some n → ⊥
some_number n h = cc

same_some : (a b : ℕ) (o : Option ℕ) → o ≡ Some a → o ≡ Some b → a ≡ b
same_some a b o x y = cc

one_number : (text : List ℕ) (repeats : Repeats) → Pair text text repeats → Braced text repeats
one_number text repeats pair =
    elim pair.rest [
      | inl none ↦ absurd (some_number pair.low (subst (λ (t : List ℕ). number_of 9 t ≡ Some pair.low) none.0 pair.first.read))
      | inr some ↦
          subst (Braced text) (sym some.3)
          (record {
            formed = and_from (leb pair.low some.0) (leb some.0 32) some.2 some.1.small;
            spelled = inl (text, refl, pair.first.read, same_some pair.low some.0 (number_of 9 text) pair.first.read some.1.read);
          })
    ]

braced_so : (text : List ℕ) (repeats : Repeats) → repeats_in text ≡ given repeats → Braced text repeats
unfolding repeats_in
braced_so text repeats is = by (split_at_first 44 text) refl is
  where
    by : (o : Option (List ℕ × List ℕ)) → split_at_first 44 text ≡ o → option_map_or (λ (parts : List ℕ × List ℕ). repeats_of parts.0 parts.1) o (repeats_of text text) ≡ given repeats → Braced text repeats
    by None e h = one_number text repeats (pair_so text text repeats h)
    by (Some parts) e h =
        subst (λ (t : List ℕ). Braced t repeats) (sym (split_so 44 text parts e)) (two_numbers parts.0 parts.1 repeats (pair_so parts.0 parts.1 repeats h))

record Counted (text : List ℕ) (found : Repeats × List ℕ) : Type 0 where
  own : List ℕ
  here : text ≡ own ++ found.1
  formed : is_formed_count found.0 ≡ true
  spelled : SpelledRepeats found.0 (123 ∷ own)

counted_so : (text : List ℕ) (found : Repeats × List ℕ) → repeats_at text ≡ given found → Counted text found
unfolding repeats_at
counted_so text found is =
    let parts = map_given (λ (p : List ℕ × List ℕ). repeats_in p.0 >>= λ repeats. given (repeats, p.1)) (split_at_first 125 text) why.BadCount found is in
    let one = bind_given (repeats_in parts.0.0) (λ repeats. given (repeats, parts.0.1)) found parts.2 in
    let braced = braced_so parts.0.0 one.0 one.1 in
    subst (Counted text) (given_is (one.0, parts.0.1) found one.2)
    (record {
      own = parts.0.0 ++ 125 ∷ [];
      here = split_so 125 text parts.0 parts.1 ∙ sym (append_assoc parts.0.0 (125 ∷ []) parts.0.1);
      formed = braced.formed;
      spelled = braced.spelled;
    })

-- ---- states

pub StateSpells : Level → List Level → List ℕ → Type 0
StateSpells level [] text = LevelSpells level text
StateSpells level (around ∷ outer) text = (front back : List ℕ) × (text ≡ front ++ 40 ∷ back) × StateSpells around outer front × LevelSpells level back

-- a step within the present level
in_state : (level next : Level) (outer : List Level) (text more : List ℕ) → ((own : List ℕ) → LevelSpells level own → LevelSpells next (own ++ more)) → StateSpells level outer text → StateSpells next outer (text ++ more)
unfolding StateSpells
in_state level next [] text more step_so s = step_so text s
in_state level next (around ∷ outer) text more step_so (front, back, whole, rest, own) =
    (front, back ++ more, ap (λ (t : List ℕ). t ++ more) whole ∙ append_assoc front (40 ∷ back) more, rest, step_so back own)

abbrev Goes : State → List ℕ → List ℕ → State → Type 0
Goes state text more next = StateSpells state.level state.outer text → StateSpells next.level next.outer (text ++ more)

level_goes : (state next : State) (text more : List ℕ) (r : Result Level Unsaid) → in_level state r ≡ given next → ((level : Level) → r ≡ given level → (own : List ℕ) → LevelSpells state.level own → LevelSpells level (own ++ more)) → Goes state text more next
level_goes state next text more r is step_so s =
    let one = bind_given r _ next is in
    subst (λ (n : State). StateSpells n.level n.outer (text ++ more)) (given_is (record { level = one.0; outer = state.outer }) next one.2)
    (in_state state.level one.0 state.outer text more (step_so one.0 one.1) s)

open_goes : (state next : State) (text : List ℕ) → opened state ≡ given next → Goes state text (40 ∷ []) next
unfolding opened StateSpells
open_goes state next text is s =
    let room = unless (leb 30 (length state.outer)) why.TooDeep (given (record { level = fresh; outer = state.level ∷ state.outer })) next is in
    subst (λ (n : State). StateSpells n.level n.outer (text ++ 40 ∷ [])) (given_is (record { level = fresh; outer = state.level ∷ state.outer }) next room.1)
    (text, [], refl, s, fresh_spells)

close_goes_at : (level : Level) (outer : List Level) (next : State) (text : List ℕ) → closed_by (finished level) outer ≡ given next → StateSpells level outer text → StateSpells next.level next.outer (text ++ 41 ∷ [])
unfolding StateSpells
close_goes_at level [] next text is s = absurd (not_given why.Unopened next is)
close_goes_at level (around ∷ outer) next text is (front, back, whole, rest, own) =
    let one = bind_given (with_part around (subexpression (finished level))) _ next is in
    let inner = finished_spells level back own in
    let same : text ++ 41 ∷ [] ≡ front ++ 40 ∷ (back ++ 41 ∷ []) = ap (λ (t : List ℕ). t ++ 41 ∷ []) whole ∙ append_assoc front (40 ∷ back) (41 ∷ []) in
    subst (λ (n : State). StateSpells n.level n.outer (text ++ 41 ∷ [])) (given_is (record { level = one.0; outer = outer }) next one.2)
    (subst (StateSpells one.0 outer) (sym same)
    (in_state around one.0 outer front (40 ∷ (back ++ 41 ∷ []))
    (λ t s. part_spells around one.0 t (subexpression (finished level)) (40 ∷ (back ++ 41 ∷ [])) s inner.formed inner.edged refl (back, refl, inner.spelled) one.1) rest))

close_goes : (state next : State) (text : List ℕ) → closed state ≡ given next → Goes state text (41 ∷ []) next
unfolding closed
close_goes state next text is s = close_goes_at state.level state.outer next text is s

-- a symbol by itself, or after a `\`
symbol_goes : (state next : State) (text own : List ℕ) (byte : ℕ) → Spelled (symbol byte) own → with_symbol state byte ≡ given next → Goes state text own next
unfolding with_symbol
symbol_goes state next text own byte spelled is =
    let so = where_so (is_symbol byte) why.NotSymbol (in_level state (with_part state.level (symbol byte))) next is in
    level_goes state next text own (with_part state.level (symbol byte)) so.1
    (λ level made t s. part_spells state.level level t (symbol byte) own s so.0 refl refl spelled made)

-- where the byte isn't this sign
abbrev Or : ℕ → ℕ → Result State Unsaid → Result State Unsaid → Result State Unsaid
Or byte sign here there = cond (eqb byte sign) here there

sign_case : (byte sign : ℕ) (here there : Result State Unsaid) (state next : State) (text : List ℕ) → Or byte sign here there ≡ given next
    → (here ≡ given next → Goes state text (sign ∷ []) next) → (eqb byte sign ≡ false → there ≡ given next → Goes state text (byte ∷ []) next) → Goes state text (byte ∷ []) next
sign_case byte sign here there state next text is yes_so no_so s =
    elim (chosen (eqb byte sign) here there (given next) is) [
      | inl same ↦ subst (λ (b : ℕ). StateSpells next.level next.outer (text ++ b ∷ [])) (sym (eqb-true byte sign same.0)) (yes_so same.1 s)
      | inr other ↦ no_so other.0 other.1 s
    ]

not_special : (byte : ℕ) → eqb byte 94 ≡ false → eqb byte 36 ≡ false → eqb byte 124 ≡ false → eqb byte 40 ≡ false → eqb byte 41 ≡ false → eqb byte 42 ≡ false → eqb byte 43 ≡ false
    → eqb byte 63 ≡ false → eqb byte 46 ≡ false → eqb byte 91 ≡ false → eqb byte 123 ≡ false → eqb byte 92 ≡ false → is_special byte ≡ false
not_special byte a b c d e f g h i j k l = rw (a, b, c, d, e, f, g, h, i, j, k, l) refl

sign_goes : (state next : State) (text : List ℕ) (byte : ℕ) → eqb byte 92 ≡ false → eqb byte 91 ≡ false → eqb byte 123 ≡ false → with_sign state byte ≡ given next → Goes state text (byte ∷ []) next
unfolding with_sign
sign_goes state next text byte no_quote no_class no_count is =
    sign_case byte 94 _ _ state next text is (λ h. level_goes state next text (94 ∷ []) (with_begin state.level) h (λ level made t s. begin_spells state.level level t s made))
    (λ n1 r1. sign_case byte 36 _ _ state next text r1 (λ h. level_goes state next text (36 ∷ []) (given (with_end state.level)) h (λ level made t s. subst (λ (l : Level). LevelSpells l (t ++ 36 ∷ [])) (given_is (with_end state.level) level made) (end_spells state.level t s)))
    (λ n2 r2. sign_case byte 124 _ _ state next text r2 (λ h. level_goes state next text (124 ∷ []) (given (with_bar state.level)) h (λ level made t s. subst (λ (l : Level). LevelSpells l (t ++ 124 ∷ [])) (given_is (with_bar state.level) level made) (bar_spells state.level t s)))
    (λ n3 r3. sign_case byte 40 _ _ state next text r3 (λ h. open_goes state next text h)
    (λ n4 r4. sign_case byte 41 _ _ state next text r4 (λ h. close_goes state next text h)
    (λ n5 r5. sign_case byte 42 _ _ state next text r5 (λ h. level_goes state next text (42 ∷ []) (with_repeats state.level Any) h (λ level made t s. repeats_spell state.level level t Any (42 ∷ []) s refl refl made))
    (λ n6 r6. sign_case byte 43 _ _ state next text r6 (λ h. level_goes state next text (43 ∷ []) (with_repeats state.level More) h (λ level made t s. repeats_spell state.level level t More (43 ∷ []) s refl refl made))
    (λ n7 r7. sign_case byte 63 _ _ state next text r7 (λ h. level_goes state next text (63 ∷ []) (with_repeats state.level Optional) h (λ level made t s. repeats_spell state.level level t Optional (63 ∷ []) s refl refl made))
    (λ n8 r8. sign_case byte 46 _ _ state next text r8 (λ h. level_goes state next text (46 ∷ []) (with_part state.level period) h (λ level made t s. part_spells state.level level t period (46 ∷ []) s refl refl refl refl made))
    (λ n9 r9. symbol_goes state next text (byte ∷ []) byte (inl (refl, not_special byte n1 n2 n3 n4 n5 n6 n7 n8 n9 no_class no_count no_quote)) r9)))))))))

-- ---- steps

record Step (state : State) (byte : ℕ) (rest : List ℕ) (next : State × List ℕ) : Type 0 where
  own : List ℕ
  here : rest ≡ own ++ next.1
  goes : (text : List ℕ) → Goes state text (byte ∷ own) next.0

and_rest_so : (rest : List ℕ) (r : Result State Unsaid) (next : State × List ℕ) → and_rest rest r ≡ given next → (r ≡ given next.0) × (rest ≡ next.1)
and_rest_so rest r next is =
    let one = bind_given r _ next is in
    let same = given_is (one.0, rest) next one.2 in
    (one.1 ∙ ap (λ (n : State × List ℕ). given n.0) same, ap (λ (n : State × List ℕ). n.1) same)

step_so : (state : State) (byte : ℕ) (rest : List ℕ) (next : State × List ℕ) → step state byte rest ≡ given next → Step state byte rest next
unfolding step
step_so state byte rest next is =
    elim (chosen (eqb byte 92) _ _ (given next) is) [
      | inl quote ↦
          let found = bind_given (escaped_at rest) _ next quote.1 in
          let escaped = escaped_so rest found.0 found.1 in
          let made = and_rest_so found.0.1 (with_symbol state found.0.0) next found.2 in
          let same : byte ≡ 92 = eqb-true byte 92 quote.0 in
          record {
            own = found.0.0 ∷ [];
            here = escaped.here ∙ ap (λ (t : List ℕ). found.0.0 ∷ t) made.1;
            goes = λ text s.
                symbol_goes state next.0 text (byte ∷ found.0.0 ∷ []) found.0.0
                (inr (ap (λ (b : ℕ). b ∷ found.0.0 ∷ []) same, escaped.plain)) made.0 s;
          }
      | inr one ↦
          elim (chosen (eqb byte 91) _ _ (given next) one.1) [
            | inl bracket ↦
                let found = bind_given (bracketed_at rest) _ next bracket.1 in
                let part = bracketed_so rest found.0 found.1 in
                let made = and_rest_so found.0.1 (in_level state (with_part state.level found.0.0)) next found.2 in
                let same : byte ≡ 91 = eqb-true byte 91 bracket.0 in
                record {
                  own = part.own;
                  here = part.here ∙ ap (λ (t : List ℕ). part.own ++ t) made.1;
                  goes = λ text s.
                      level_goes state next.0 text (byte ∷ part.own) (with_part state.level found.0.0) made.0
                      (λ level so t l. part_spells state.level level t found.0.0 (byte ∷ part.own) l part.formed part.edged part.piece
                      (subst (λ (b : ℕ). Spelled found.0.0 (b ∷ part.own)) (sym same) part.spelled) so) s;
                }
            | inr two ↦
                elim (chosen (eqb byte 123) _ _ (given next) two.1) [
                  | inl brace ↦
                      let found = bind_given (repeats_at rest) _ next brace.1 in
                      let count = counted_so rest found.0 found.1 in
                      let made = and_rest_so found.0.1 (in_level state (with_repeats state.level found.0.0)) next found.2 in
                      let same : byte ≡ 123 = eqb-true byte 123 brace.0 in
                      record {
                        own = count.own;
                        here = count.here ∙ ap (λ (t : List ℕ). count.own ++ t) made.1;
                        goes = λ text s.
                            level_goes state next.0 text (byte ∷ count.own) (with_repeats state.level found.0.0) made.0
                            (λ level so t l. repeats_spell state.level level t found.0.0 (byte ∷ count.own) l count.formed
                            (subst (λ (b : ℕ). SpelledRepeats found.0.0 (b ∷ count.own)) (sym same) count.spelled) so) s;
                      }
                  | inr three ↦
                      let made = and_rest_so rest (with_sign state byte) next three.1 in
                      record {
                        own = [];
                        here = made.1;
                        goes = λ text s. sign_goes state next.0 text byte one.0 two.0 three.0 made.0 s;
                      }
                ]
          ]
    ]

-- ---- the whole

ended_at : (level : Level) (outer : List Level) (text : List ℕ) (e : Expression) → ended_by (finished level) outer ≡ given e → StateSpells level outer text → Whole e text
unfolding StateSpells
ended_at level [] text e is s = subst (λ (x : Expression). Whole x text) (given_is (finished level) e is) (finished_spells level text s)
ended_at level (around ∷ outer) text e is s = absurd (not_given why.Unclosed e is)

ended_so : (state : State) (text : List ℕ) (e : Expression) → ended state ≡ given e → StateSpells state.level state.outer text → Whole e text
unfolding ended
ended_so state text e is s = ended_at state.level state.outer text e is s

read_so : (most : ℕ) (state : State) (before text : List ℕ) (e : Expression) → length text ≤ most → read_within most state text ≡ given e → StateSpells state.level state.outer before → Whole e (before ++ text)
unfolding read_within
read_so zero state before [] e le is s = subst (Whole e) (sym (append-nil before)) (ended_so state before e is s)
read_so zero state before (byte ∷ rest) e le is s = absurd (omega (arith, le))
read_so (suc most) state before [] e le is s = subst (Whole e) (sym (append-nil before)) (ended_so state before e is s)
read_so (suc most) state before (byte ∷ rest) e le is s =
    let next = bind_given (step state byte rest) _ e is in
    let one = step_so state byte rest next.0 next.1 in
    let short : length next.0.1 ≤ most = omega (arith, le, ap length one.here, length-append one.own next.0.1) in
    let whole : (before ++ byte ∷ one.own) ++ next.0.1 ≡ before ++ byte ∷ rest =
    append_assoc before (byte ∷ one.own) next.0.1 ∙ ap (λ (t : List ℕ). before ++ byte ∷ t) (sym one.here) in
    subst (Whole e) whole (read_so most next.0.0 (before ++ byte ∷ one.own) next.0.1 e short next.2 (one.goes before s))

pub reading_spells : (text : List ℕ) (e : Expression) → reading text ≡ given e → Spells text e
unfolding reading StateSpells
reading_spells text e is =
    let short = unless (ltb 400 (length text)) why.TooLong (read_within (length text) start text) e is in
    let whole = read_so (length text) start [] text e (omega arith) short.1 fresh_spells in
    (and_from (is_formed e) (is_edged e) whole.formed whole.edged, whole.spelled)
