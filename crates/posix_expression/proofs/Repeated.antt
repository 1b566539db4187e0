-- How often a repeated part of a pattern stands.
use Rattle.std.proofs.Common.{◌≡◌, ℕ, zero, suc, ◌+◌, ◌-◌, ◌≤◌, Bool, true, false, ◌&&◌, eqb, leb, cond, Option, Some, None, List, [], ◌∷◌, ◌++◌, refl, sym, ap, ap₂, subst, ◌∙◌, inl, inr, append_assoc, append-nil, arith}
use Rattle.std.specs.List.{AllByRecursion, concat}
use Rattle.std.specs.Fmt.{decimal}
use Rattle.std.proofs.lemmas.Bool.{and_parts, and_from, leb-true, le-leb, eqb-true}
use Rattle.std.proofs.lemmas.Fmt.{length-decimal-le}
use Rattle.basics.specs.Number.{number_of}
use Rattle.basics.proofs.NumberFacts.{number_of-decimal}
use Rattle.pol_pattern.specs.Flat.{class, group, star, Term, empty, put, none, alt, join_term}
use Rattle.pol_pattern.specs.Sets.{InTerm, InTerms, Joins}
use Rattle.pol_pattern.specs.Spelling.{asterisk, exactly, between, Sequence, Repetition, nothing, next, single, repeated, suffix_repeat, counted, counts_of, range_counts, alternatives_of, copies, optional, repeat_factors, repetition_factors}
use Rattle.pol_pattern.specs.Languages.{Concatenation, Power, Powers}
use Rattle.pol_pattern.proofs.Powers.{in_counted, counted_in}
use Rattle.posix_expression.specs.declared.tree.Repeats.{Repeats}
use Rattle.posix_expression.specs.declared.tree.Repeats.TheVariants.{Any, More, Optional, Between, AtLeast}
use Rattle.posix_expression.specs.Syntax.{is_formed_count}
use Rattle.posix_expression.specs.Finding.{Allows}
use Rattle.posix_expression.proofs.PatternSets.{InPart, in_join_term, join_term_in, one_in, in_one, in_group, group_in, in_single, single_in, in_next, next_in}
use Rattle.posix_expression.proofs.PatternTrees.{counts_suffix, repeated_part}

-- ---- powers

power_at : (P : List ℕ → Type 0) (m n : ℕ) (text : List ℕ) → m ≡ n → Power P m text → Power P n text
power_at P m n text is held = subst (λ (k : ℕ). Power P k text) is held

power_join : (P : List ℕ → Type 0) (m n : ℕ) (text : List ℕ) → Concatenation (Power P m) (Power P n) text → Power P (m + n) text
unfolding Power
power_join P zero n text (front, back, whole, first, rest) =
    power_at P n (0 + n) text (omega arith) (subst (Power P n) (sym (whole ∙ ap (λ (t : List ℕ). t ++ back) first)) rest)
power_join P (suc m) n text (front, back, whole, (head, tail, split, first, more), rest) =
    power_at P (suc (m + n)) (suc m + n) text (omega arith) (
      head,
      tail ++ back,
      whole ∙ ap (λ (t : List ℕ). t ++ back) split ∙ append_assoc head tail back,
      first,
      power_join P m n (tail ++ back) (tail, back, refl, more, rest),
    )

power_split : (P : List ℕ → Type 0) (m n : ℕ) (text : List ℕ) → m ≤ n → Power P n text → Concatenation (Power P m) (Power P (n - m)) text
unfolding Power
power_split P zero n text le held = ([], text, refl, refl, power_at P n (n - 0) text (omega arith) held)
power_split P (suc m) zero text le held = absurd (omega (arith, le))
power_split P (suc m) (suc n) text le (front, back, whole, first, rest) =
    let parts = power_split P m n back (omega (arith, le)) rest in (
      front ++ parts.0,
      parts.1,
      whole ∙ ap (λ (t : List ℕ). front ++ t) parts.2 ∙ sym (append_assoc front parts.0 parts.1),
      (front, parts.0, refl, first, parts.3),
      power_at P (n - m) (suc n - suc m) parts.1 (omega arith) parts.4,
    )

power_one : (P : List ℕ → Type 0) (text : List ℕ) → P text → Power P 1 text
unfolding Power
power_one P text h = (text, [], sym (append-nil text), h, refl)

one_power : (P : List ℕ → Type 0) (text : List ℕ) → Power P 1 text → P text
unfolding Power
one_power P text (front, back, whole, first, nil) =
    subst P (sym (whole ∙ ap (λ (t : List ℕ). front ++ t) nil ∙ append-nil front)) first

-- ---- any number of times

in_alternatives : (factors : Term) (text : List ℕ) → InTerms (alternatives_of factors) text → InTerm factors text
in_alternatives empty text (inl h) = h
in_alternatives empty text (inr h) = absurd h
in_alternatives (put (class c) more) text (inl h) = h
in_alternatives (put (class c) more) text (inr h) = absurd h
in_alternatives (put (star terms) more) text (inl h) = h
in_alternatives (put (star terms) more) text (inr h) = absurd h
in_alternatives (put (group terms) empty) text h = in_one (group terms) text h
in_alternatives (put (group terms) (put factor more)) text (inl h) = h
in_alternatives (put (group terms) (put factor more)) text (inr h) = absurd h

alternatives_in : (factors : Term) (text : List ℕ) → InTerm factors text → InTerms (alternatives_of factors) text
alternatives_in empty text h = inl h
alternatives_in (put (class c) more) text h = inl h
alternatives_in (put (star terms) more) text h = inl h
alternatives_in (put (group terms) empty) text h = one_in (group terms) text h
alternatives_in (put (group terms) (put factor more)) text h = inl h

joined_power : (factors : Term) (parts : List (List ℕ)) → AllByRecursion (InTerms (alternatives_of factors)) parts → (count : ℕ) × Power (InTerm factors) count (concat parts)
unfolding Power
joined_power factors [] all = (0, refl)
joined_power factors (part ∷ parts) all =
    let rest = joined_power factors parts all.1 in
    (suc rest.0, (part, concat parts, refl, in_alternatives factors part all.0, rest.1))

power_joined : (factors : Term) (count : ℕ) (text : List ℕ) → Power (InTerm factors) count text → Joins (InTerms (alternatives_of factors)) text
unfolding Power
power_joined factors zero text h = ([], tt, h)
power_joined factors (suc count) text (front, back, whole, first, rest) =
    let more = power_joined factors count back rest in
    (front ∷ more.0, (alternatives_in factors front first, more.1), whole ∙ ap (λ (t : List ℕ). front ++ t) more.2)

in_star : (factors : Term) (text : List ℕ) → InTerm (put (star (alternatives_of factors)) empty) text → (count : ℕ) × Power (InTerm factors) count text
in_star factors text h =
    let joins = one_in (star (alternatives_of factors)) text h in
    let powers = joined_power factors joins.0 joins.1 in
    (powers.0, subst (Power (InTerm factors) powers.0) (sym joins.2) powers.1)

star_in : (factors : Term) (count : ℕ) (text : List ℕ) → Power (InTerm factors) count text → InTerm (put (star (alternatives_of factors)) empty) text
star_in factors count text h = in_one (star (alternatives_of factors)) text (power_joined factors count text h)

-- ---- counts

number_is : (n : ℕ) → n ≤ 32 → number_of 2 (decimal n) ≡ Some n
number_is n le = number_of-decimal 2 n (omega (arith, le)) (length-decimal-le 2 n (omega arith) (omega (arith, le)) (omega (arith, le)))

pub range_some : (low high : ℕ) → (leb low high && leb high 32) ≡ true → range_counts (decimal low) (decimal high) ≡ Some (low, high)
range_some low high h =
    let parts = and_parts (leb low high) (leb high 32) h in
    let most : high ≤ 32 = leb-true high 32 parts.1 in
    let least : low ≤ high = leb-true low high parts.0 in
    ap₂ (λ (a b : Option ℕ). counts_of a b) (number_is low (omega (arith, most, least))) (number_is high most)
    ∙ ap (λ (b : Bool). cond b (Some (low, high)) None) h

-- the factors of a part that is counted
abbrev counted_factors : ℕ → ℕ → Term → Term
counted_factors low high factors = join_term (copies low factors) (copies (high - low) (optional factors))

suffix_factors : (low high : ℕ) (factors : Term) → (leb low high && leb high 32) ≡ true → repeat_factors (suffix_repeat (counts_suffix low high)) factors ≡ counted_factors low high factors
suffix_factors low high factors h = by (eqb low high) refl
  where
    by : (b : Bool) → eqb low high ≡ b → repeat_factors (suffix_repeat (cond b (exactly (decimal low)) (between (decimal low) (decimal high)))) factors ≡ counted_factors low high factors
    by true e =
        ap (λ (n : ℕ). repeat_factors (counted (range_counts (decimal low) (decimal n))) factors) (eqb-true low high e)
        ∙ ap (λ (o : Option (ℕ × ℕ)). repeat_factors (counted o) factors) (range_some low high h)
    by false e = ap (λ (o : Option (ℕ × ℕ)). repeat_factors (counted o) factors) (range_some low high h)

in_counts : (low high : ℕ) (part : Repetition) (text : List ℕ) → (leb low high && leb high 32) ≡ true → InPart (repeated part (counts_suffix low high)) text → Powers (InPart part) low high text
in_counts low high part text h held =
    in_counted low high (repetition_factors part) text (leb-true low high (and_parts (leb low high) (leb high 32) h).0)
    (subst (λ (f : Term). InTerm f text) (suffix_factors low high (repetition_factors part) h) held)

counts_in : (low high : ℕ) (part : Repetition) (text : List ℕ) → (leb low high && leb high 32) ≡ true → Powers (InPart part) low high text → InPart (repeated part (counts_suffix low high)) text
counts_in low high part text h held =
    subst (λ (f : Term). InTerm f text) (sym (suffix_factors low high (repetition_factors part) h))
    (counted_in low high (repetition_factors part) text held)

alike : (low : ℕ) → leb low 32 ≡ true → (leb low low && leb low 32) ≡ true
alike low h = and_from (leb low low) (leb low 32) (le-leb low low (omega arith)) h

-- ---- repeats

-- so often, and then any number of times
abbrev at_least_sequence : ℕ → Repetition → Sequence
at_least_sequence low part = next (repeated part (counts_suffix low low)) (next (repeated part asterisk) nothing)

pub in_repeated : (repeats : Repeats) (part : Repetition) (text : List ℕ) → is_formed_count repeats ≡ true → InPart (repeated_part repeats part) text
    → (count : ℕ) × Allows repeats count × Power (InPart part) count text
unfolding Power
in_repeated Any part text right h = let powers = in_star (repetition_factors part) text h in (powers.0, tt, powers.1)
in_repeated More part text right h =
    let parts = in_join_term (repetition_factors part) (put (star (alternatives_of (repetition_factors part))) empty) text h in
    let powers = in_star (repetition_factors part) parts.1 parts.4 in
    (suc powers.0, omega arith, (parts.0, parts.1, parts.2, parts.3, powers.1))
in_repeated Optional part text right h = by (one_in (group (alt (repetition_factors part) (alt empty none))) text h)
  where
    by : InTerms (alt (repetition_factors part) (alt empty none)) text → (count : ℕ) × Allows Optional count × Power (InPart part) count text
    by (inl one) = (1, omega arith, power_one (InPart part) text one)
    by (inr (inl nil)) = (0, omega arith, nil)
    by (inr (inr never)) = absurd never
in_repeated (Between low high) part text right h = let powers = in_counts low high part text right h in (powers.0, (powers.1, powers.2), powers.3)
in_repeated (AtLeast low) part text right h =
    let whole = in_single (at_least_sequence low part) text (in_group (single (at_least_sequence low part)) text h) in
    let parts = in_next (repeated part (counts_suffix low low)) (next (repeated part asterisk) nothing) text whole in
    let first = in_counts low low part parts.0 (alike low right) parts.3 in
    let rest = in_star (repetition_factors part) parts.1 parts.4 in
    (first.0 + rest.0, omega (arith, first.1), power_join (InPart part) first.0 rest.0 text (parts.0, parts.1, parts.2, first.3, rest.1))

pub repeated_in : (repeats : Repeats) (part : Repetition) (text : List ℕ) → is_formed_count repeats ≡ true → (count : ℕ) → Allows repeats count → Power (InPart part) count text
    → InPart (repeated_part repeats part) text
unfolding Power
repeated_in Any part text right count allowed h = star_in (repetition_factors part) count text h
repeated_in More part text right zero allowed h = absurd (omega (arith, allowed))
repeated_in More part text right (suc count) allowed (front, back, whole, first, rest) =
    join_term_in (repetition_factors part) (put (star (alternatives_of (repetition_factors part))) empty) text
    (front, back, whole, first, star_in (repetition_factors part) count back rest)
repeated_in Optional part text right zero allowed h = in_one (group (alt (repetition_factors part) (alt empty none))) text (inr (inl h))
repeated_in Optional part text right (suc zero) allowed h = in_one (group (alt (repetition_factors part) (alt empty none))) text (inl (one_power (InPart part) text h))
repeated_in Optional part text right (suc (suc count)) allowed h = absurd (omega (arith, allowed))
repeated_in (Between low high) part text right count allowed h = counts_in low high part text right (count, allowed.0, allowed.1, h)
repeated_in (AtLeast low) part text right count allowed h =
    let parts = power_split (InPart part) low count text allowed h in
    group_in (single (at_least_sequence low part)) text (single_in (at_least_sequence low part) text
    (next_in (repeated part (counts_suffix low low)) (next (repeated part asterisk) nothing) text (
      parts.0,
      parts.1,
      parts.2,
      counts_in low low part parts.0 (alike low right) (low, omega arith, omega arith, parts.3),
      star_in (repetition_factors part) (count - low) parts.1 parts.4,
    )))
