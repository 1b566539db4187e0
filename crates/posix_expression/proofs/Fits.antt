-- What fits without anchors fits wherever it stands.
use Rattle.std.proofs.Common.{◌≡◌, ℕ, zero, suc, true, false, List, ◌++◌, sym, ap, ◌∙◌, inl, inr}
use Rattle.std.proofs.lemmas.Bool.{or_parts, true≢false}
use Rattle.posix_expression.specs.Syntax.{Expression, blank, symbol, period, bracketed, begin, end, subexpression, duplicated, concatenated, alternated, has_begin, has_end}
use Rattle.posix_expression.specs.Finding.{Fit, Times, Matches}
use Rattle.basics.specs.Symbol.{is_text}
use Rattle.pol_pattern.specs.Languages.{Power}
use Rattle.posix_expression.proofs.Texts.{text_parts}

times_begin : (fit : Fit) → ((before other text after : List ℕ) → fit before text after → fit other text after)
    → (count : ℕ) (before other text after : List ℕ) → Times fit count before text after → Times fit count other text after
unfolding Times
times_begin fit moves zero before other text after h = h
times_begin fit moves (suc count) before other text after (front, back, whole, first, rest) =
    (front, back, whole, moves before other front (back ++ after) first, times_begin fit moves count (before ++ front) (other ++ front) back after rest)

times_end : (fit : Fit) → ((before text after other : List ℕ) → fit before text after → fit before text other)
    → (count : ℕ) (before text after other : List ℕ) → Times fit count before text after → Times fit count before text other
unfolding Times
times_end fit moves zero before text after other h = h
times_end fit moves (suc count) before text after other (front, back, whole, first, rest) =
    (front, back, whole, moves before front (back ++ after) (back ++ other) first, times_end fit moves count (before ++ front) back after other rest)

pub shift_begin : (e : Expression) → has_begin e ≡ false → (before other text after : List ℕ) → Matches e before text after → Matches e other text after
shift_begin blank none before other text after h = h
shift_begin (symbol byte) none before other text after h = h
shift_begin period none before other text after h = h
shift_begin (bracketed negated first others) none before other text after h = h
shift_begin begin none before other text after h = absurd (true≢false none)
shift_begin end none before other text after h = h
shift_begin (subexpression inner) none before other text after h = shift_begin inner none before other text after h
shift_begin (duplicated part repeats) none before other text after (count, allowed, times) =
    (count, allowed, times_begin (Matches part) (shift_begin part none) count before other text after times)
shift_begin (concatenated first second) none before other text after (front, back, whole, one, two) =
    let parts = or_parts (has_begin first) (has_begin second) none in
    (front, back, whole, shift_begin first parts.0 before other front (back ++ after) one, shift_begin second parts.1 (before ++ front) (other ++ front) back after two)
shift_begin (alternated first second) none before other text after (inl h) =
    inl (shift_begin first (or_parts (has_begin first) (has_begin second) none).0 before other text after h)
shift_begin (alternated first second) none before other text after (inr h) =
    inr (shift_begin second (or_parts (has_begin first) (has_begin second) none).1 before other text after h)

pub shift_end : (e : Expression) → has_end e ≡ false → (before text after other : List ℕ) → Matches e before text after → Matches e before text other
shift_end blank none before text after other h = h
shift_end (symbol byte) none before text after other h = h
shift_end period none before text after other h = h
shift_end (bracketed negated first others) none before text after other h = h
shift_end begin none before text after other h = h
shift_end end none before text after other h = absurd (true≢false none)
shift_end (subexpression inner) none before text after other h = shift_end inner none before text after other h
shift_end (duplicated part repeats) none before text after other (count, allowed, times) =
    (count, allowed, times_end (Matches part) (shift_end part none) count before text after other times)
shift_end (concatenated first second) none before text after other (front, back, whole, one, two) =
    let parts = or_parts (has_end first) (has_end second) none in
    (front, back, whole, shift_end first parts.0 before front (back ++ after) (back ++ other) one, shift_end second parts.1 (before ++ front) back after other two)
shift_end (alternated first second) none before text after other (inl h) =
    inl (shift_end first (or_parts (has_end first) (has_end second) none).0 before text after other h)
shift_end (alternated first second) none before text after other (inr h) =
    inr (shift_end second (or_parts (has_end first) (has_end second) none).1 before text after other h)

-- wherever it stands
pub shift : (e : Expression) → has_begin e ≡ false → has_end e ≡ false → (before text after other others : List ℕ) → Matches e before text after → Matches e other text others
shift e b n before text after other others h = shift_end e n other text after others (shift_begin e b before other text after h)

-- ---- so many times, as the powers of a set

pub times_power : (P : List ℕ → Type 0) (fit : Fit) → ((before text after : List ℕ) → is_text text ≡ true → fit before text after → P text)
    → (count : ℕ) (before text after : List ℕ) → is_text text ≡ true → Times fit count before text after → Power P count text
unfolding Times Power
times_power P fit gives zero before text after texts h = h
times_power P fit gives (suc count) before text after texts (front, back, whole, first, rest) =
    let parts = text_parts front back (ap is_text (sym whole) ∙ texts) in
    (front, back, whole, gives before front (back ++ after) parts.0 first, times_power P fit gives count (before ++ front) back after parts.1 rest)

pub power_times : (P : List ℕ → Type 0) (fit : Fit) → ((text : List ℕ) → P text → (before after : List ℕ) → fit before text after)
    → (count : ℕ) (text : List ℕ) → Power P count text → (before after : List ℕ) → Times fit count before text after
unfolding Times Power
power_times P fit gives zero text h before after = h
power_times P fit gives (suc count) text (front, back, whole, first, rest) before after =
    (front, back, whole, gives front first before (back ++ after), power_times P fit gives count back rest (before ++ front) after)
