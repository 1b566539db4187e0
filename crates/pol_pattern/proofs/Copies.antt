-- The factors of a unit many times over.
use Rattle.std.proofs.Common.{◌≡◌, ℕ, zero, suc, ◌+◌, ◌-◌, ◌*◌, ◌<◌, ◌≤◌, ◌⊎◌, inl, inr, min, false, eqb, refl, sym, ap, ◌∙◌, add-one, arith}
use Rattle.std.proofs.Math.Nat.{suc-mul}
use Rattle.std.proofs.lemmas.Bool.{ne_eqb}
use Rattle.pol_pattern.specs.Flat.{Factor, class, group, star, Term, empty, put, Terms, join_term, term_size, factor_size}
use Rattle.pol_pattern.specs.Spelling.{copies, optional, repeat_factors}
use Rattle.pol_pattern.specs.Sizes.{is_one_group}
use Rattle.pol_pattern.specs.declared.token.Repeat.TheVariants.{Counted}
use Rattle.pol_pattern.proofs.Counts.{size-join_term}
use Rattle.pol_pattern.proofs.TreeLevels.{join_term-empty, join_term_assoc}

-- ---- sizes up to 401

pub cap_product : (count size : ℕ) → min 401 (count * min 401 size) ≡ min 401 (count * size)
cap_product zero size = omega arith
cap_product (suc count) size = omega (arith, suc-mul count size, suc-mul count (min 401 size), cap_product count size)

pub size-copies : (count : ℕ) (factors : Term) → term_size (copies count factors) ≡ count * term_size factors
unfolding copies
size-copies zero factors = omega arith
size-copies (suc count) factors = size-join_term factors (copies count factors) ∙ omega (arith, size-copies count factors, suc-mul count (term_size factors))

pub size-counted : (low high : ℕ) (factors : Term) → term_size (repeat_factors (Counted low high) factors) ≡ low * term_size factors + (high - low) * (term_size factors + 1)
size-counted low high factors =
    let options = copies (high - low) (optional factors) in
    let one : term_size (optional factors) ≡ term_size factors + 1 = omega arith in
    size-join_term (copies low factors) options
    ∙ omega (arith, size-copies low factors, size-copies (high - low) (optional factors) ∙ ap (λ (s : ℕ). (high - low) * s) one)

capped : (x y first options : ℕ) → first ≡ min 401 x → options ≡ min 401 y → min 401 (first + options) ≡ min 401 (x + y)
capped x y first options f o = omega arith

-- the count of the code is that of the definition
pub capped_counted : (low high size last more first options sum : ℕ) → last ≡ min 401 size → more ≡ min 401 (last + 1)
    → first ≡ min 401 (low * last) → options ≡ min 401 ((high - low) * more) → sum ≡ min 401 (first + options)
    → sum ≡ min 401 (low * size + (high - low) * (size + 1))
capped_counted low high size last more first options sum l m f o s =
    let whole : more ≡ min 401 (size + 1) = omega arith in
    let front : first ≡ min 401 (low * size) = f ∙ ap (λ (x : ℕ). min 401 (low * x)) l ∙ cap_product low size in
    let back : options ≡ min 401 ((high - low) * (size + 1)) = o ∙ ap (λ (x : ℕ). min 401 ((high - low) * x)) whole ∙ cap_product (high - low) (size + 1) in
    s ∙ capped (low * size) ((high - low) * (size + 1)) first options front back

-- ---- no factors

pub size-factor : (factor : Factor) → 1 ≤ factor_size factor
size-factor (class c) = omega arith
size-factor (group terms) = omega arith
size-factor (star terms) = omega arith

pub no_factors : (factors : Term) → min 401 (term_size factors) ≡ 0 → factors ≡ empty
no_factors empty is = refl
no_factors (put factor factors) is = absurd (omega (arith, size-factor factor))

pub copies-empty : (count : ℕ) → copies count empty ≡ empty
unfolding copies
copies-empty zero = refl
copies-empty (suc count) = copies-empty count

-- ---- exactly one group

-- one factor with others after it
not_alone : (factor : Factor) (others : Term) → 1 ≤ term_size others → is_one_group (put factor others) ≡ false
not_alone factor empty some = absurd (omega arith)
not_alone (class c) (put other others) some = refl
not_alone (star terms) (put other others) some = refl
not_alone (group terms) (put other others) some = refl

one_of_groups : (count : ℕ) (terms : Terms) → eqb count 1 ≡ is_one_group (copies count (put (group terms) empty))
unfolding copies
one_of_groups zero terms = refl
one_of_groups (suc zero) terms = refl
one_of_groups (suc (suc count)) terms = ne_eqb (suc (suc count)) 1 (λ is. omega arith)

-- without factors of the unit only the groups are left
pub no_times_one : (low high options : ℕ) (factors : Term) → options ≡ high - low → low ≡ 0 → eqb options 1 ≡ is_one_group (repeat_factors (Counted low high) factors)
unfolding copies
no_times_one low high options factors left never =
    one_of_groups options _ ∙ ap (λ (n : ℕ). is_one_group (copies n (optional factors))) left
    ∙ ap (λ (n : ℕ). is_one_group (join_term (copies n factors) (copies (high - low) (optional factors)))) (sym never)

pub no_unit_one : (low high options : ℕ) (factors : Term) → options ≡ high - low → factors ≡ empty → eqb options 1 ≡ is_one_group (repeat_factors (Counted low high) factors)
no_unit_one low high options factors left is =
    one_of_groups options _ ∙ ap (λ (n : ℕ). is_one_group (copies n (optional factors))) left
    ∙ ap (λ (t : Term). is_one_group (join_term t (copies (high - low) (optional factors)))) (sym (ap (copies low) is ∙ copies-empty low))

-- more than once, or with a group after it
pub more_than_one : (low high options : ℕ) (factors : Term) → options ≡ high - low → 1 ≤ term_size factors → (1 < low) ⊎ ((0 < low) × (0 < options)) → is_one_group (repeat_factors (Counted low high) factors) ≡ false
unfolding copies
more_than_one low high options factors left some many =
    ap (λ (n : ℕ). is_one_group (join_term (copies low factors) (copies n (optional factors)))) (sym left)
    ∙ by low options factors some many
  where
    by : (low options : ℕ) (factors : Term) → 1 ≤ term_size factors → (1 < low) ⊎ ((0 < low) × (0 < options)) → is_one_group (join_term (copies low factors) (copies options (optional factors))) ≡ false
    by zero options factors some (inl many) = absurd (omega arith)
    by zero options factors some (inr many) = absurd (omega (arith, many.0))
    by (suc low) options empty some many = absurd (omega arith)
    by (suc zero) zero (put factor factors) some (inl many) = absurd (omega arith)
    by (suc zero) zero (put factor factors) some (inr many) = absurd (omega (arith, many.1))
    by (suc zero) (suc options) (put factor factors) some many =
        not_alone factor _ (omega (arith, size-join_term (join_term factors empty) (copies (suc options) (optional (put factor factors)))))
    by (suc (suc low)) options (put factor factors) some many =
        let rest = copies options (optional (put factor factors)) in
        let again = copies (suc low) (put factor factors) in
        not_alone factor _ (omega (arith, size-factor factor, size-join_term (join_term factors again) rest, size-join_term factors again))

-- once
pub once_one : (low high options : ℕ) (factors : Term) → options ≡ high - low → low ≡ 1 → options ≡ 0 → is_one_group factors ≡ is_one_group (repeat_factors (Counted low high) factors)
unfolding copies
once_one low high options factors left once done =
    ap is_one_group (sym (join_term-empty (join_term factors empty) ∙ join_term-empty factors))
    ∙ ap (λ (n : ℕ). is_one_group (join_term (copies 1 factors) (copies n (optional factors)))) (sym done ∙ left)
    ∙ ap (λ (n : ℕ). is_one_group (join_term (copies n factors) (copies (high - low) (optional factors)))) (sym once)

-- ---- one after another

join_copies : (count : ℕ) (factors : Term) → join_term (copies count factors) factors ≡ join_term factors (copies count factors)
unfolding copies
join_copies zero factors = sym (join_term-empty factors)
join_copies (suc count) factors = join_term_assoc factors (copies count factors) factors ∙ ap (join_term factors) (join_copies count factors)

pub copies-one_more : (count : ℕ) (factors : Term) → join_term (copies count factors) factors ≡ copies (count + 1) factors
unfolding copies
copies-one_more count factors = join_copies count factors ∙ sym (ap (λ (n : ℕ). copies n factors) (add-one count))

pub copies-none : (factors : Term) → copies 0 factors ≡ empty
unfolding copies
copies-none factors = refl
