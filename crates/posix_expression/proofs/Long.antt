-- Where many `{m,}` stand in one another the pattern is too long.
use Rattle.std.proofs.Common.{◌≡◌, ℕ, zero, suc, ◌+◌, ◌-◌, ◌<◌, ◌≤◌, Bool, true, false, ◌&&◌, not, eqb, cond, Option, Some, None, List, [], ◌∷◌, ◌++◌, length, length-append, Result, Err, refl, sym, ap, subst, inl, inr, arith}
use Rattle.std.proofs.lemmas.Bool.{or_cases, lt-ltb, false≢true, eqb-true}
use Rattle.pol_pattern.specs.declared.fault.PatternFault.{PatternFault}
use Rattle.pol_pattern.specs.declared.fault.PatternFault.TheVariants as faults
use Rattle.pol_pattern.specs.Reading.{reading_by, pattern_of}
use Rattle.pol_pattern.specs.Memory.{is_memory as fault_is_memory}
use Rattle.basics.specs.Memory.{Except}
use Rattle.posix_expression.specs.Memory.{is_memory}
use Rattle.posix_expression.specs.declared.tree.Repeats.TheVariants.{Any, More, Optional, Between, AtLeast}
use Rattle.posix_expression.specs.declared.unsaid.Unsaid.TheVariants as why
use Rattle.posix_expression.specs.Syntax.{Expression, blank, symbol, period, bracketed, begin, end, subexpression, duplicated, concatenated, alternated, has_begin, has_end}
use Rattle.posix_expression.specs.Writing.{any_if, around, is_run, count_written, repeated_written, written, is_everything, is_optional, doubles, edges_of, alternatives_written, some_written, symbols_written, arguments_written, line_written, unless_refused, refusal_of}

abbrev err_of : PatternFault → Result (List ℕ) PatternFault
err_of fault = Err fault

abbrev twice : ℕ → ℕ
twice zero = 2
twice (suc n) = twice n + twice n

around_long : (opens closes : Bool) (part : List ℕ) → length part ≤ length (around opens part closes)
around_long opens closes part = omega (arith, length-append (any_if opens) (part ++ any_if closes), length-append part (any_if closes))

enclosed_long : (part : List ℕ) → length part ≤ length (40 ∷ (part ++ 41 ∷ []))
enclosed_long part = omega (arith, length-append part (41 ∷ []))

doubled_long : (low : ℕ) (part : List ℕ) → length part + length part + 3 ≤ length (repeated_written (AtLeast low) part)
doubled_long low part =
    omega (arith, length-append part (count_written low low ++ (part ++ 42 ∷ 41 ∷ [])), length-append (count_written low low) (part ++ 42 ∷ 41 ∷ []), length-append part (42 ∷ 41 ∷ []))

never : (n : ℕ) → eqb (suc n) 0 ≡ true → ⊥
never n is = let zero_is : suc n ≡ 0 = eqb-true (suc n) 0 is in omega arith

long : (e : Expression) (n : ℕ) (opens closes : Bool) → doubles n e ≡ true → twice n ≤ length (written opens closes e) + 1
long (subexpression inner) n opens closes h =
    let more = long inner n (opens && has_begin inner) (closes && has_end inner) h in
    let text : List ℕ = written (opens && has_begin inner) (closes && has_end inner) inner in
    omega (arith, more, enclosed_long text, around_long (opens && not (has_begin inner)) (closes && not (has_end inner)) (40 ∷ (text ++ 41 ∷ [])))
long (duplicated part (AtLeast low)) zero opens closes h =
    let text : List ℕ = written false false part in
    omega (arith, doubled_long low text, around_long (opens && not (is_run part (AtLeast low))) (closes && not (is_run part (AtLeast low))) (repeated_written (AtLeast low) text))
long (duplicated part (AtLeast low)) (suc n) opens closes h =
    let text : List ℕ = written false false part in
    let one : suc n - 1 ≡ n = omega arith in
    let more : twice n ≤ length text + 1 =
    elim (or_cases (eqb (suc n) 0) (doubles (suc n - 1) part) h) [
      | inl is ↦ absurd (never n is)
      | inr inner ↦ long part n false false (subst (λ (k : ℕ). doubles k part ≡ true) one inner)
    ] in
    omega (arith, more, doubled_long low text, around_long (opens && not (is_run part (AtLeast low))) (closes && not (is_run part (AtLeast low))) (repeated_written (AtLeast low) text))
long (duplicated part Any) n opens closes h =
    let text : List ℕ = written false false part in
    omega (arith, long part n false false h, length-append text (42 ∷ []), around_long (opens && not (is_run part Any)) (closes && not (is_run part Any)) (repeated_written Any text))
long (duplicated part More) n opens closes h =
    let text : List ℕ = written false false part in
    omega (arith, long part n false false h, length-append text (43 ∷ []), around_long (opens && not (is_run part More)) (closes && not (is_run part More)) (repeated_written More text))
long (duplicated part Optional) n opens closes h =
    let text : List ℕ = written false false part in
    omega (arith, long part n false false h, length-append text (63 ∷ []), around_long (opens && not (is_run part Optional)) (closes && not (is_run part Optional)) (repeated_written Optional text))
long (duplicated part (Between low high)) n opens closes h =
    let text : List ℕ = written false false part in
    omega (arith, long part n false false h, length-append text (count_written low high), around_long (opens && not (is_run part (Between low high))) (closes && not (is_run part (Between low high))) (repeated_written (Between low high) text))
long (concatenated first second) n opens closes h =
    elim (or_cases (doubles n first) (doubles n second) h) [
      | inl one ↦ omega (arith, long first n opens false one, length-append (written opens false first) (written false closes second))
      | inr two ↦ omega (arith, long second n false closes two, length-append (written opens false first) (written false closes second))
    ]
long (alternated first second) n opens closes h =
    elim (or_cases (doubles n first) (doubles n second) h) [
      | inl one ↦ omega (arith, long first n opens closes one, length-append (written opens closes first) (124 ∷ written opens closes second))
      | inr two ↦ omega (arith, long second n opens closes two, length-append (written opens closes first) (124 ∷ written opens closes second))
    ]
long blank n opens closes h = absurd (false≢true h)
long (symbol byte) n opens closes h = absurd (false≢true h)
long period n opens closes h = absurd (false≢true h)
long (bracketed negated first others) n opens closes h = absurd (false≢true h)
long begin n opens closes h = absurd (false≢true h)
long end n opens closes h = absurd (false≢true h)

alternatives_long : (edges : Option (Bool × Bool)) (e : Expression) → doubles 8 e ≡ true → 400 < length (alternatives_written edges e)
alternatives_long None e h = omega (arith, long e 8 true true h, enclosed_long (written true true e))
alternatives_long (Some edges) e h =
    omega (arith, long e 8 false false h, enclosed_long (written false false e), around_long (not edges.0) (not edges.1) (40 ∷ (written false false e ++ 41 ∷ [])))

some_long : (e : Expression) → doubles 8 e ≡ true → 400 < length (some_written e)
some_long (alternated first second) h = alternatives_long (edges_of (alternated first second)) (alternated first second) h
some_long blank h = absurd (false≢true h)
some_long (symbol byte) h = absurd (false≢true h)
some_long period h = absurd (false≢true h)
some_long (bracketed negated first others) h = absurd (false≢true h)
some_long begin h = absurd (false≢true h)
some_long end h = absurd (false≢true h)
some_long (subexpression inner) h = omega (arith, long (subexpression inner) 8 true true h)
some_long (duplicated part repeats) h = omega (arith, long (duplicated part repeats) 8 true true h)
some_long (concatenated first second) h = omega (arith, long (concatenated first second) 8 true true h)

line_long : (name : List ℕ) (e : Expression) → is_everything e ≡ false → doubles 8 e ≡ true → 400 < length (line_written name e)
unfolding line_written arguments_written
line_long name e closed h = by (is_optional e)
  where
    more : 400 < length (cond (is_everything e) (46 ∷ 42 ∷ []) (some_written e))
    more = subst (λ (b : Bool). 400 < length (cond b (46 ∷ 42 ∷ []) (some_written e))) (sym closed) (some_long e h)

    by : (b : Bool) → 400 < length (cond b (symbols_written name ++ 40 ∷ 32 ∷ (cond (is_everything e) (46 ∷ 42 ∷ []) (some_written e) ++ 41 ∷ 63 ∷ [])) (symbols_written name ++ 32 ∷ cond (is_everything e) (46 ∷ 42 ∷ []) (some_written e)))
    by true =
        omega (
          arith,
          more,
          length-append (symbols_written name) (40 ∷ 32 ∷ (cond (is_everything e) (46 ∷ 42 ∷ []) (some_written e) ++ 41 ∷ 63 ∷ [])),
          length-append (cond (is_everything e) (46 ∷ 42 ∷ []) (some_written e)) (41 ∷ 63 ∷ []),
        )
    by false = omega (arith, more, length-append (symbols_written name) (32 ∷ cond (is_everything e) (46 ∷ 42 ∷ []) (some_written e)))

too_long : (bytes : List ℕ) → 400 < length bytes → unless_refused (pattern_of bytes) ≡ Err why.TooLarge
unfolding pattern_of reading_by
too_long bytes more = rw (lt-ltb 400 (length bytes) more) refl

pub long_refused : (name : List ℕ) (e : Expression) → is_everything e ≡ false → doubles 8 e ≡ true → unless_refused (pattern_of (line_written name e)) ≡ Err why.TooLarge
long_refused name e closed h = too_long (line_written name e) (line_long name e closed h)

-- what a pattern's fault makes of it
pub refused_so : (fault : PatternFault) (source : List ℕ) → Except (fault_is_memory fault) (pattern_of source ≡ err_of fault) → Except (is_memory (refusal_of fault)) (unless_refused (pattern_of source) ≡ Err (refusal_of fault))
refused_so faults.Memory source h = tt
refused_so faults.TooLong source h = ap unless_refused h
refused_so (faults.Unprintable place) source h = ap unless_refused h
refused_so (faults.Unclosed place) source h = ap unless_refused h
refused_so (faults.Unopened place) source h = ap unless_refused h
refused_so (faults.NothingToRepeat place) source h = ap unless_refused h
refused_so (faults.BadClass place) source h = ap unless_refused h
refused_so (faults.BadEscape place) source h = ap unless_refused h
refused_so faults.TooDeep source h = ap unless_refused h
refused_so faults.TooLarge source h = ap unless_refused h
refused_so (faults.BadRepeat place) source h = ap unless_refused h
