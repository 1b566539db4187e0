-- The sizes of what is read.
use Rattle.std.proofs.Common.{◌≡◌, ℕ, ◌+◌, min, Bool, true, false, not, cond, refl, sym, ap, ◌∙◌, arith}
use mir.Val.{bool_byte}
use Rattle.pol_pattern.specs.Flat.{class, group, star, Term, empty, put, Terms, none, alt, join_terms, join_term, term_size, terms_size}
use Rattle.pol_pattern.specs.Spelling.{alternatives_of}
use Rattle.pol_pattern.specs.declared.sizes.Sizes.{Sizes}
use Rattle.pol_pattern.specs.Sizes.{is_one_group, size_of}
use Rattle.pol_pattern.specs.Reading.{Level, with_repeat}
use Rattle.pol_pattern.specs.declared.token.Repeat.TheVariants.{Star, Plus, Question}

pub size-join_term : (front back : Term) → term_size (join_term front back) ≡ term_size front + term_size back
size-join_term empty back = omega arith
size-join_term (put factor front) back = omega (arith, size-join_term front back)

pub size-join_terms : (front back : Terms) → terms_size (join_terms front back) ≡ terms_size front + terms_size back
size-join_terms none back = omega arith
size-join_terms (alt term front) back = omega (arith, size-join_terms front back)

-- a star around one group takes the group's place
pub size-star : (factors : Term) → 1 + terms_size (alternatives_of factors) ≡ term_size factors + cond (is_one_group factors) 0 1
size-star empty = refl
size-star (put (class c) factors) = omega arith
size-star (put (star terms) factors) = omega arith
size-star (put (group terms) empty) = omega arith
size-star (put (group terms) (put factor factors)) = omega arith

pub no_group_after : (factors : Term) (terms : Terms) → is_one_group (join_term factors (put (star terms) empty)) ≡ false
no_group_after empty terms = refl
no_group_after (put (class c) factors) terms = refl
no_group_after (put (star inner) factors) terms = refl
no_group_after (put (group inner) empty) terms = refl
no_group_after (put (group inner) (put factor factors)) terms = refl

pub same_sizes : (done done' before before' last last' : ℕ) (one one' : Bool) → done ≡ done' → before ≡ before' → last ≡ last' → one ≡ one'
    → ◌≡◌ {A = Sizes} (record { done = done; before = before; last = last; last_is_group = one }) (record { done = done'; before = before'; last = last'; last_is_group = one' })
same_sizes done done' before before' last last' one one' d b l o = cc

-- ---- a unit repeated

abbrev pub extra_of : Bool → ℕ
extra_of one = cond one 0 1

pub extra_byte : (one : Bool) → bool_byte (not one) ≡ extra_of one
extra_byte true = refl
extra_byte false = refl

pub star_sizes : (s : Sizes) (level : Level) (extra sum : ℕ) → s ≡ size_of level → extra ≡ extra_of s.last_is_group → sum ≡ min 401 (s.last + extra)
    → ◌≡◌ {A = Sizes} (record { done = s.done; before = s.before; last = sum; last_is_group = false }) (size_of (with_repeat level Star))
star_sizes s level extra sum is e total =
    let bit : extra ≡ extra_of (is_one_group level.last) = e ∙ ap (λ (t : Sizes). extra_of t.last_is_group) is in
    same_sizes _ _ _ _ _ _ _ _ (ap (λ (t : Sizes). t.done) is) (ap (λ (t : Sizes). t.before) is)
    (omega (arith, ap (λ (t : Sizes). t.last) is, size-star level.last)) refl

pub plus_sizes : (s : Sizes) (level : Level) (extra sum both : ℕ) → s ≡ size_of level → extra ≡ extra_of s.last_is_group → sum ≡ min 401 (s.last + extra) → both ≡ min 401 (s.last + sum)
    → ◌≡◌ {A = Sizes} (record { done = s.done; before = s.before; last = both; last_is_group = false }) (size_of (with_repeat level Plus))
plus_sizes s level extra sum both is e total more =
    let bit : extra ≡ extra_of (is_one_group level.last) = e ∙ ap (λ (t : Sizes). extra_of t.last_is_group) is in
    same_sizes _ _ _ _ _ _ _ _ (ap (λ (t : Sizes). t.done) is) (ap (λ (t : Sizes). t.before) is)
    (omega (arith, ap (λ (t : Sizes). t.last) is, size-star level.last, size-join_term level.last (put (star (alternatives_of level.last)) empty)))
    (sym (no_group_after level.last (alternatives_of level.last)))

pub question_sizes : (s : Sizes) (level : Level) (sum : ℕ) → s ≡ size_of level → sum ≡ min 401 (s.last + 1)
    → ◌≡◌ {A = Sizes} (record { done = s.done; before = s.before; last = sum; last_is_group = true }) (size_of (with_repeat level Question))
question_sizes s level sum is total =
    same_sizes _ _ _ _ _ _ _ _ (ap (λ (t : Sizes). t.done) is) (ap (λ (t : Sizes). t.before) is)
    (omega (arith, ap (λ (t : Sizes). t.last) is)) refl
