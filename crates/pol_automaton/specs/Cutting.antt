-- What of the residuals of entries counts. Once that of an entry has the term `.*`, the entry or
-- one before it is the first match of whatever goes on: nothing after it counts, and of itself only
-- that term.
use Rattle.std.proofs.Common.{◌≡◌, ◌<◌, ◌↔◌, ◌⊎◌, inl, inr, ℕ, zero, suc, Bool, true, false, IsTrue}
use Rattle.std.proofs.Common.{refl, sym, subst, arith}
use Rattle.basics.specs.Symbol.{is_symbol}
use Rattle.pol_pattern.specs.Flat.{Term}
use Rattle.pol_residual.specs.Derivative.{Derivative, Derivatives}
use Rattle.pol_residual.specs.Residuals.{any_text}
use Rattle.pol_deriv.proofs.AnyText.{any_derivative, only_derivative, no_derivative}
use Rattle.pol_automaton.specs.After.{derivatives_more}

-- of each entry a set of terms
abbrev pub TermSets : Type 1
TermSets = ℕ → Term → Type 0

-- the term counts: no entry before is sure, and where its own entry is, it is `.*`
abbrev pub Counts : TermSets → ℕ → Term → Type 0
Counts set entry term = set entry term × (set entry any_text → term ≡ any_text)
    × ((k : ℕ) → k < entry → ¬ (set k any_text))

-- up to the first entry that is sure in both, each of the first so many has the same terms
abbrev pub SameUpTo : ℕ → TermSets → TermSets → Type 0
SameUpTo zero a b = Unit {0}
SameUpTo (suc many) a b = (a 0 any_text × b 0 any_text)
    ⊎ (((term : Term) → a 0 term ↔ b 0 term)
    × SameUpTo many (λ entry. a (suc entry)) (λ entry. b (suc entry)))

abbrev pub AreSame : TermSets → TermSets → Type 0
AreSame a b = (many : ℕ) → SameUpTo many a b

-- those to which the symbol leads
abbrev pub Stepped : ℕ → TermSets → TermSets
Stepped symbol set entry = Derivatives symbol (set entry)

-- ---- they are told apart so

pub same_itself : (a : TermSets) → AreSame a a
same_itself a zero = tt
same_itself a (suc many) = inr (λ term. (λ h. h, λ h. h), same_itself (λ entry. a (suc entry)) many)

pub same_back : (many : ℕ) (a b : TermSets) → SameUpTo many a b → SameUpTo many b a
same_back zero a b same = tt
same_back (suc many) a b (inl sure) = inl (sure.1, sure.0)
same_back (suc many) a b (inr same) =
    inr (
      λ term. ((same.0 term).1, (same.0 term).0),
      same_back many (λ entry. a (suc entry)) (λ entry. b (suc entry)) same.1,
    )

pub same_on : (many : ℕ) (a b c : TermSets) → SameUpTo many a b → SameUpTo many b c
    → SameUpTo many a c
same_on zero a b c p q = tt
same_on (suc many) a b c (inl p) (inl q) = inl (p.0, q.1)
same_on (suc many) a b c (inl p) (inr q) = inl (p.0, (q.0 any_text).0 p.1)
same_on (suc many) a b c (inr p) (inl q) = inl ((p.0 any_text).1 q.0, q.1)
same_on (suc many) a b c (inr p) (inr q) =
    inr (
      λ term. (λ h. (q.0 term).0 ((p.0 term).0 h), λ h. (p.0 term).1 ((q.0 term).1 h)),
      same_on many (λ entry. a (suc entry)) (λ entry. b (suc entry)) (λ entry. c (suc entry)) p.1 q.1,
    )

-- terms for terms the same
pub same_each : (many : ℕ) (a b : TermSets)
    → ((entry : ℕ) (term : Term) → a entry term ↔ b entry term) → SameUpTo many a b
same_each zero a b each = tt
same_each (suc many) a b each =
    inr (
      each 0,
      same_each many (λ entry. a (suc entry)) (λ entry. b (suc entry)) (λ entry. each (suc entry)),
    )

-- a sure entry stays sure by a symbol, and by another byte no entry has a term
pub same_stepped : (symbol many : ℕ) (a b : TermSets) → SameUpTo many a b
    → SameUpTo many (Stepped symbol a) (Stepped symbol b)
same_stepped symbol zero a b same = tt
same_stepped symbol (suc many) a b (inl sure) = by (is_symbol symbol) refl
  where
    by : (test : Bool) → is_symbol symbol ≡ test
        → SameUpTo (suc many) (Stepped symbol a) (Stepped symbol b)
    by true is =
        let own = any_derivative symbol is in
        inl ((any_text, sure.0, own), (any_text, sure.1, own))
    by false is =
        same_each (suc many) (Stepped symbol a) (Stepped symbol b)
        (λ entry term. (
          λ w. absurd (no_derivative symbol w.0 term is w.2),
          λ w. absurd (no_derivative symbol w.0 term is w.2),
        ))
same_stepped symbol (suc many) a b (inr same) =
    inr (
      λ term. (
        derivatives_more (a 0) (b 0) symbol (λ t. (same.0 t).0) term,
        derivatives_more (b 0) (a 0) symbol (λ t. (same.0 t).1) term,
      ),
      same_stepped symbol many (λ entry. a (suc entry)) (λ entry. b (suc entry)) same.1,
    )

-- ---- what counts, and what is the same

pub counts_alike : (a b : TermSets) → ((entry : ℕ) (term : Term) → a entry term ↔ b entry term)
    → (entry : ℕ) (term : Term) → Counts a entry term → Counts b entry term
counts_alike a b each entry term c = (
  (each entry term).0 c.0,
  λ h. c.1 ((each entry any_text).1 h),
  λ k below h. c.2 k below ((each k any_text).1 h),
)

-- no entry before is sure, if the first isn't and of those after it none
none_before : (set : TermSets) (entry : ℕ) → ¬ (set 0 any_text)
    → ((k : ℕ) → k < entry → ¬ (set (suc k) any_text))
    → (k : ℕ) → k < suc entry → ¬ (set k any_text)
none_before set entry first later zero below h = first h
none_before set entry first later (suc k) below h = later k (omega arith) h

-- of the same residuals the same terms count
pub counts_same : (entry : ℕ) (a b : TermSets) → SameUpTo (suc entry) a b → (term : Term)
    → Counts a entry term → Counts b entry term
counts_same zero a b (inl sure) term c =
    let is : term ≡ any_text = c.1 sure.0 in
    (subst (b 0) (sym is) sure.1, λ h. is, λ k below. absurd (omega arith))
counts_same zero a b (inr same) term c =
    ((same.0 term).0 c.0, λ h. c.1 ((same.0 any_text).1 h), λ k below. absurd (omega arith))
counts_same (suc entry) a b (inl sure) term c = absurd (c.2 0 (omega arith) sure.0)
counts_same (suc entry) a b (inr same) term c =
    let later = counts_same entry (λ e. a (suc e)) (λ e. b (suc e)) same.1 term
    (c.0, c.1, λ k below. c.2 (suc k) (omega arith)) in (
      later.0,
      later.1,
      none_before b entry (λ h. c.2 0 (omega arith) ((same.0 any_text).1 h)) later.2,
    )

-- it is known whether the entry is sure
abbrev pub IsSureOrNot : TermSets → ℕ → Type 0
IsSureOrNot set entry = set entry any_text ⊎ (¬ (set entry any_text))

-- what counts of entries after one that isn't sure
counts_later : (set : TermSets) → ¬ (set 0 any_text) → (entry : ℕ) (term : Term)
    → Counts set (suc entry) term ↔ Counts (λ e. set (suc e)) entry term
counts_later set first entry term = (
  λ c. (c.0, c.1, λ k below. c.2 (suc k) (omega arith)),
  λ c. (c.0, c.1, none_before set entry first c.2),
)

-- terms of the first entry, if it isn't sure
counts_first : (set : TermSets) (term : Term) → ¬ (set 0 any_text) → set 0 term → Counts set 0 term
counts_first set term first h = (h, λ s. absurd (first s), λ k below. absurd (omega arith))

-- the first entry counts if it is sure
first_counts : (set : TermSets) → set 0 any_text → Counts set 0 any_text
first_counts set h = (h, λ s. refl, λ k below. absurd (omega arith))

-- lists of what counts that have the same terms are of the same residuals
pub same_counted : (many : ℕ) (a b has other : TermSets)
    → ((entry : ℕ) (term : Term) → has entry term ↔ Counts a entry term)
    → ((entry : ℕ) (term : Term) → other entry term ↔ Counts b entry term)
    → ((entry : ℕ) (term : Term) → has entry term ↔ other entry term)
    → ((entry : ℕ) → IsSureOrNot has entry) → SameUpTo many a b
same_counted zero a b has other p q both decided = tt
same_counted (suc many) a b has other p q both decided =
    by (decided 0)
    (λ not_a not_b. same_counted many (λ e. a (suc e)) (λ e. b (suc e)) (λ e. has (suc e))
    (λ e. other (suc e))
    (λ entry term. (
      λ h. (counts_later a not_a entry term).0 ((p (suc entry) term).0 h),
      λ c. (p (suc entry) term).1 ((counts_later a not_a entry term).1 c),
    ))
    (λ entry term. (
      λ h. (counts_later b not_b entry term).0 ((q (suc entry) term).0 h),
      λ c. (q (suc entry) term).1 ((counts_later b not_b entry term).1 c),
    ))
    (λ entry. both (suc entry)) (λ entry. decided (suc entry)))
  where
    by : IsSureOrNot has 0
        → (¬ (a 0 any_text) → ¬ (b 0 any_text)
        → SameUpTo many (λ e. a (suc e)) (λ e. b (suc e)))
        → SameUpTo (suc many) a b
    by (inl sure) later =
        inl (((p 0 any_text).0 sure).0, ((q 0 any_text).0 ((both 0 any_text).0 sure)).0)
    by (inr not_sure) later =
        let not_a = λ (h : a 0 any_text). not_sure ((p 0 any_text).1 (first_counts a h)) in
        let not_b = λ (h : b 0 any_text).
        not_sure ((both 0 any_text).1 ((q 0 any_text).1 (first_counts b h))) in
        inr (
          λ term. (
            λ h.
                ((q 0 term).0
                ((both 0 term).0 ((p 0 term).1 (counts_first a term not_a h)))).0,
            λ h.
                ((p 0 term).0
                ((both 0 term).1 ((q 0 term).1 (counts_first b term not_b h)))).0,
          ),
          later not_a not_b,
        )

-- ---- what counts after a symbol

module _ (symbol : ℕ) (is : IsTrue (is_symbol symbol)) (a has : TermSets)
    (counted : (entry : ℕ) (term : Term) → has entry term ↔ Counts a entry term)
    (decided : (entry : ℕ) → IsSureOrNot has entry) where
  -- an entry before which none is sure
  here : (entry : ℕ) → ((k : ℕ) → k < entry → ¬ (a k any_text)) → IsSureOrNot a entry
  here entry none = by (decided entry)
    where
      by : IsSureOrNot has entry → IsSureOrNot a entry
      by (inl h) = inl ((counted entry any_text).0 h).0
      by (inr not_sure) = inr (λ h. not_sure ((counted entry any_text).1 (h, λ _. refl, none)))

  sure_goes_on : (k : ℕ) → a k any_text → Stepped symbol a k any_text
  sure_goes_on k h = (any_text, h, any_derivative symbol is)

  wider : (entry : ℕ) (term : Term) → Stepped symbol has entry term → Stepped symbol a entry term
  wider entry term w = (w.0, ((counted entry w.0).0 w.1).0, w.2)

  -- what counts of what follows all is what counts of what follows those that count
  pub counts_stepped : (entry : ℕ) (term : Term)
      → Counts (Stepped symbol has) entry term ↔ Counts (Stepped symbol a) entry term
  counts_stepped entry term = (to, from)
    where
      to : Counts (Stepped symbol has) entry term → Counts (Stepped symbol a) entry term
      to c = (wider entry term c.0, own (here entry none), before)
        where
          none : (k : ℕ) → k < entry → ¬ (a k any_text)
          none = ((counted entry c.0.0).0 c.0.1).2

          own : IsSureOrNot a entry → Stepped symbol a entry any_text → term ≡ any_text
          own (inl sure) w =
              let source : c.0.0 ≡ any_text = ((counted entry c.0.0).0 c.0.1).1 sure in
              only_derivative symbol term (subst (λ t. Derivative symbol t term) source c.0.2)
          own (inr not_sure) w =
              c.1 (w.0, (counted entry w.0).1 (w.1, λ s. absurd (not_sure s), none), w.2)

          before : (k : ℕ) → k < entry → ¬ (Stepped symbol a k any_text)
          before k below w =
              c.2 k below (
                w.0,
                (counted k w.0).1 (w.1, λ s. absurd (none k below s), λ j under. none j (omega arith)),
                w.2,
              )

      from : Counts (Stepped symbol a) entry term → Counts (Stepped symbol has) entry term
      from c = (
        at (here entry none),
        λ w. c.1 (wider entry any_text w),
        λ k below w. c.2 k below
            (wider k any_text w),
      )
        where
          none : (k : ℕ) → k < entry → ¬ (a k any_text)
          none k below h = c.2 k below (sure_goes_on k h)

          at : IsSureOrNot a entry → Stepped symbol has entry term
          at (inl sure) =
              let is_any : term ≡ any_text = c.1 (sure_goes_on entry sure) in
              subst (Stepped symbol has entry) (sym is_any)
              (any_text, (counted entry any_text).1 (sure, λ _. refl, none), any_derivative symbol is)
          at (inr not_sure) =
              (c.0.0, (counted entry c.0.0).1 (c.0.1, λ s. absurd (not_sure s), none), c.0.2)
