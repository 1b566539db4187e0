-- What the factors of a counted repeat hold: as many texts of its unit as the counts allow.
use Rattle.std.proofs.Common.{◌≡◌, ℕ, zero, suc, ◌+◌, ◌-◌, ◌≤◌, nat_le, ◌&&◌, Option, Some, None, List, [], ◌++◌, inl, inr, refl, sym, ap, subst, ◌∙◌, append_assoc, append-nil, arith}
use Rattle.std.proofs.lemmas.Bool.{and_parts, leb-true}
use Rattle.pol_pattern.specs.declared.token.Repeat.TheVariants.{Counted}
use Rattle.pol_pattern.specs.Flat.{Term, empty, put, join_term}
use Rattle.pol_pattern.specs.Sets.{InTerm}
use Rattle.pol_pattern.specs.Spelling.{copies, optional, repeat_factors, counts_of}
use Rattle.pol_pattern.specs.Languages.{Concatenation, Power, Powers}
use Rattle.pol_pattern.proofs.Steps.{chosen, given, some_is}

-- ---- powers of sets

pub power_map : (P Q : List ℕ → Type 0) → ((text : List ℕ) → P text → Q text) → (count : ℕ) (text : List ℕ) → Power P count text → Power Q count text
unfolding Power
power_map P Q h zero text is = is
power_map P Q h (suc count) text (front, back, whole, first, rest) = (front, back, whole, h front first, power_map P Q h count back rest)

pub powers_map : (P Q : List ℕ → Type 0) → ((text : List ℕ) → P text → Q text) → (low high : ℕ) (text : List ℕ) → Powers P low high text → Powers Q low high text
powers_map P Q h low high text (count, least, most, held) = (count, least, most, power_map P Q h count text held)

power_at : (P : List ℕ → Type 0) (m n : ℕ) (text : List ℕ) → m ≡ n → Power P m text → Power P n text
power_at P m n text is held = subst (λ (k : ℕ). Power P k text) is held

-- one power after another
power_join : (P : List ℕ → Type 0) (m n : ℕ) (text : List ℕ) → Concatenation (Power P m) (Power P n) text → Power P (m + n) text
unfolding Power
power_join P zero n text (front, back, whole, first, rest) =
    power_at P n (0 + n) text (omega arith) (subst (Power P n) (sym (whole ∙ ap (λ (t : List ℕ). t ++ back) first)) rest)
power_join P (suc m) n text (front, back, whole, (head, tail, split, first, more), rest) =
    power_at P (suc (m + n)) (suc m + n) text (omega arith) (
      head,
      tail ++ back,
      whole ∙ ap (λ (t : List ℕ). t ++ back) split ∙ append_assoc head tail back,
      first,
      power_join P m n (tail ++ back) (tail, back, refl, more, rest),
    )

power_split : (P : List ℕ → Type 0) (m n : ℕ) (text : List ℕ) → m ≤ n → Power P n text → Concatenation (Power P m) (Power P (n - m)) text
unfolding Power
power_split P zero n text le held = ([], text, refl, refl, power_at P n (n - 0) text (omega arith) held)
power_split P (suc m) zero text le held = absurd (omega (arith, le))
power_split P (suc m) (suc n) text le (front, back, whole, first, rest) =
    let parts = power_split P m n back (omega (arith, le)) rest in (
      front ++ parts.0,
      parts.1,
      whole ∙ ap (λ (t : List ℕ). front ++ t) parts.2 ∙ sym (append_assoc front parts.0 parts.1),
      (front, parts.0, refl, first, parts.3),
      power_at P (n - m) (suc n - suc m) parts.1 (omega arith) parts.4,
    )

-- ---- factors one after another

in_join_term : (a b : Term) (text : List ℕ) → InTerm (join_term a b) text → Concatenation (InTerm a) (InTerm b) text
in_join_term empty b text held = ([], text, refl, refl, held)
in_join_term (put factor a) b text (front, back, whole, first, rest) =
    let parts = in_join_term a b back rest in (
      front ++ parts.0,
      parts.1,
      whole ∙ ap (λ (t : List ℕ). front ++ t) parts.2 ∙ sym (append_assoc front parts.0 parts.1),
      (front, parts.0, refl, first, parts.3),
      parts.4,
    )

join_term_in : (a b : Term) (text : List ℕ) → Concatenation (InTerm a) (InTerm b) text → InTerm (join_term a b) text
join_term_in empty b text (front, back, whole, first, rest) = subst (InTerm b) (sym (whole ∙ ap (λ (t : List ℕ). t ++ back) first)) rest
join_term_in (put factor a) b text (front, back, whole, (head, tail, split, first, more), rest) = (
  head,
  tail ++ back,
  whole ∙ ap (λ (t : List ℕ). t ++ back) split ∙ append_assoc head tail back,
  first,
  join_term_in a b (tail ++ back) (tail, back, refl, more, rest),
)

-- ---- copies

in_copies : (count : ℕ) (unit : Term) (text : List ℕ) → InTerm (copies count unit) text → Power (InTerm unit) count text
unfolding copies Power
in_copies zero unit text held = held
in_copies (suc count) unit text held =
    let parts = in_join_term unit (copies count unit) text held in
    (parts.0, parts.1, parts.2, parts.3, in_copies count unit parts.1 parts.4)

copies_in : (count : ℕ) (unit : Term) (text : List ℕ) → Power (InTerm unit) count text → InTerm (copies count unit) text
unfolding copies Power
copies_in zero unit text held = held
copies_in (suc count) unit text (front, back, whole, first, rest) =
    join_term_in unit (copies count unit) text (front, back, whole, first, copies_in count unit back rest)

-- a text of the unit, or the empty text
optional_in : (unit : Term) (text : List ℕ) → InTerm unit text → InTerm (optional unit) text
optional_in unit text held = (text, [], sym (append-nil text), inl held, refl)

optional_empty : (unit : Term) → InTerm (optional unit) []
optional_empty unit = ([], [], refl, inr (inl refl), refl)

in_options : (most : ℕ) (unit : Term) (text : List ℕ) → InTerm (copies most (optional unit)) text → Powers (InTerm unit) 0 most text
unfolding copies Power
in_options zero unit text held = (0, omega arith, omega arith, held)
in_options (suc most) unit text held =
    let parts = in_join_term (optional unit) (copies most (optional unit)) text held in
    by most unit text parts.0 parts.1 parts.2 parts.3 (in_options most unit parts.1 parts.4)
  where
    by : (most : ℕ) (unit : Term) (text front back : List ℕ) → text ≡ front ++ back → InTerm (optional unit) front → Powers (InTerm unit) 0 most back → Powers (InTerm unit) 0 (suc most) text
    by most unit text front back whole (head, tail, split, inl one, end) (count, least, fits, rest) = (
      suc count,
      omega arith,
      omega (arith, fits),
      (
        head,
        back,
        whole ∙ ap (λ (t : List ℕ). t ++ back) (split ∙ ap (λ (t : List ℕ). head ++ t) end ∙ append-nil head),
        one,
        rest,
      ),
    )
    by most unit text front back whole (head, tail, split, inr (inl nothing), end) (count, least, fits, rest) = (
      count,
      least,
      omega (arith, fits),
      subst (Power (InTerm unit) count)
          (sym (whole ∙ ap (λ (t : List ℕ). t ++ back) (split ∙ ap (λ (t : List ℕ). head ++ t) end ∙ append-nil head ∙ nothing))) rest,
    )
    by most unit text front back whole (head, tail, split, inr (inr never), end) rest = absurd never

options_in : (most : ℕ) (unit : Term) (count : ℕ) (text : List ℕ) → count ≤ most → Power (InTerm unit) count text → InTerm (copies most (optional unit)) text
unfolding copies Power
options_in zero unit zero text fits held = held
options_in zero unit (suc count) text fits held = absurd (omega (arith, fits))
options_in (suc most) unit zero text fits held =
    join_term_in (optional unit) (copies most (optional unit)) text
    ([], text, refl, optional_empty unit, options_in most unit zero text (omega arith) held)
options_in (suc most) unit (suc count) text fits (front, back, whole, first, rest) =
    join_term_in (optional unit) (copies most (optional unit)) text
    (front, back, whole, optional_in unit front first, options_in most unit count back (omega (arith, fits)) rest)

-- ---- a counted repeat

pub in_counted : (low high : ℕ) (unit : Term) (text : List ℕ) → low ≤ high → InTerm (repeat_factors (Counted low high) unit) text → Powers (InTerm unit) low high text
in_counted low high unit text le held =
    let parts = in_join_term (copies low unit) (copies (high - low) (optional unit)) text held in
    let more = in_options (high - low) unit parts.1 parts.4 in (
      low + more.0,
      omega arith,
      omega (arith, le, more.2),
      power_join (InTerm unit) low more.0 text (parts.0, parts.1, parts.2, in_copies low unit parts.0 parts.3, more.3),
    )

pub counted_in : (low high : ℕ) (unit : Term) (text : List ℕ) → Powers (InTerm unit) low high text → InTerm (repeat_factors (Counted low high) unit) text
counted_in low high unit text (count, least, most, held) =
    let parts = power_split (InTerm unit) low count text least held in
    join_term_in (copies low unit) (copies (high - low) (optional unit)) text (
      parts.0,
      parts.1,
      parts.2,
      copies_in low unit parts.0 parts.3,
      options_in (high - low) unit (count - low) parts.1 (omega (arith, least, most)) parts.4,
    )

-- the counts of a suffix are in order
pub counts_in_order : (first second : Option ℕ) (low high : ℕ) → counts_of first second ≡ Some (low, high) → low ≤ high
counts_in_order None second low high is = absurd cc
counts_in_order (Some a) None low high is = absurd cc
counts_in_order (Some a) (Some b) low high is =
    elim (chosen (nat_le a b && nat_le b 32) (given (a, b)) None (given (low, high)) is) [
      | inl h ↦
          let same = some_is (a, b) (low, high) h.1 in
          let le : a ≤ b = leb-true a b (and_parts (nat_le a b) (nat_le b 32) h.0).0 in
          omega (arith, le, ap (λ (p : ℕ × ℕ). p.0) same, ap (λ (p : ℕ × ℕ). p.1) same)
      | inr h ↦ absurd cc
    ]
