-- Entries as a machine: which words lead to one list of residuals, and what more terms leave as it
-- is.
use Rattle.std.proofs.Common.{◌≡◌, ◌==◌, ◌<◌, ◌↔◌, inl, inr, ℕ, suc, true, IsTrue, List, []}
use Rattle.std.proofs.Common.{Contains, length, refl, sym, subst, ap, ◌∙◌}
use Rattle.std.specs.Cmp.Lexicographic.{pointwise, pointwise_decides}
use Rattle.std.specs.Bool.{Decides}
use Rattle.std.specs.Global.{Vec}
use Rattle.std.proofs.lemmas.Bool.{and_from, eq-eqb}
use Rattle.std.proofs.lemmas.List.Elements.{All-contains}
use Rattle.basics.specs.Symbol.{is_symbol}
use Rattle.pol_pattern.specs.Flat.{Term}
use Rattle.pol_residual.specs.Residuals.{any_text}
use Rattle.pol_deriv.specs.Table.{Grows}
use Rattle.pol_scan.specs.Alphabet.{Alphabet, text_of, least_of}
use Rattle.pol_scan.specs.Words.{longer}
use Rattle.pol_scan.specs.Congruence.{Keeps}
use Rattle.pol_automaton.specs.declared.entry_term.EntryTerm.{EntryTerm}
use Rattle.pol_automaton.specs.After.{After, after_same}
use Rattle.pol_automaton.specs.Cutting.{TermSets, Counts, Stepped, same_back, same_on, same_each}
use Rattle.pol_automaton.specs.Cutting.{counts_alike, counts_same, same_counted, counts_stepped}
use Rattle.pol_automaton.specs.Scanning.{item_of, HasTerm, AreResiduals, AfterText, LeadsTo}
use Rattle.pol_automaton.specs.Scanning.{AlikeAfter, residuals, after_longer}
use Rattle.pol_automaton.specs.Entries.{Entries, SameTerms, GrowsTo}
use Rattle.pol_automaton.specs.Stepping.{AreDerivatives, AreCut}
use Rattle.pol_automaton.specs.Order.{same_item, same_is, order_total, same_sorted}
use Rattle.pol_automaton.specs.Having.{meant, has_kept, has_back, within_kept}

-- ---- equal lists

contained_in : (alphabet : Alphabet) (table : List Term) (start : List EntryTerm) (u v : List ℕ)
    (s t : List EntryTerm) → LeadsTo alphabet table start u s → LeadsTo alphabet table start v t
    → AlikeAfter alphabet table start u v → (x : EntryTerm) → Contains s x → Contains t x
contained_in alphabet table start u v s t p q same x c =
    let m = meant table x.term
    (All-contains (λ (item : EntryTerm). item.term < length table) s x p.right.within c) in
    let counted = counts_same x.entry (AfterText alphabet table start u)
    (AfterText alphabet table start v) (same (suc x.entry)) m.0
    ((p.members x.entry m.0).0 (x.term, c, m.1)) in
    let h = (q.members x.entry m.0).1 counted in
    let number : h.0 ≡ x.term = p.right.distinct h.0 x.term m.0 h.2 m.1 in
    subst (λ (n : ℕ). Contains t (item_of x.entry n)) number h.1

pub told_apart : (alphabet : Alphabet) (table : List Term) (start : List EntryTerm) (u v : List ℕ)
    (s t : List EntryTerm) → LeadsTo alphabet table start u s → LeadsTo alphabet table start v t
    → (pointwise same_item s t ≡ true) ↔ AlikeAfter alphabet table start u v
told_apart alphabet table start u v s t p q = (
  λ e many.
      let is : s ≡ t = (pointwise_decides decides s t).0 e in
      same_counted many (AfterText alphabet table start u) (AfterText alphabet table start v)
      (HasTerm table s) (HasTerm table t) p.members q.members
      (λ entry term. (
        subst (λ (l : List EntryTerm). HasTerm table l entry term) is,
        subst (λ (l : List EntryTerm). HasTerm table l entry term) (sym is),
      )) p.decided,
  λ same.
      (pointwise_decides decides s t).1
      (same_sorted order_total s t p.right.sorted q.right.sorted
      (λ x. (
        contained_in alphabet table start u v s t p q same x,
        contained_in alphabet table start v u t s q p
            (λ many. same_back many (AfterText alphabet table start u)
            (AfterText alphabet table start v) (same many)) x,
      ))),
)
  where
    decides : (x y : EntryTerm) → Decides (same_item x y) (x ≡ y)
    decides x y = (
      same_is x y,
      λ e. and_from (x.entry == y.entry) (x.term == y.term)
          (eq-eqb x.entry y.entry (ap (λ (z : EntryTerm). z.entry) e))
          (eq-eqb x.term y.term (ap (λ (z : EntryTerm). z.term) e)),
    )

-- ---- more terms

pub grown : (old new : List Term) → Grows old new → (items : List EntryTerm)
    → AreResiduals old items
    → AreResiduals new items × SameTerms old new items
grown old new grows items right = (
  record {
    sorted = right.sorted;
    within = within_kept old new items grows.kept right.within;
    distinct = grows.distinct;
  },
  λ entry term. (
    has_kept old new items grows.kept entry term,
    has_back old new items grows.kept right.within entry term,
  ),
)

pub after_grown : (a b : Entries) → GrowsTo a b → (word : List ℕ) (entry : ℕ) (term : Term)
    → AfterText a.alphabet a.terms a.start word entry term
    ↔ AfterText b.alphabet b.terms b.start word entry term
after_grown a b g word entry term =
    let begun : (t : Term) → HasTerm a.terms a.start entry t
    ↔ HasTerm b.terms b.start entry t = λ t.
    subst (λ (s : List EntryTerm). HasTerm a.terms a.start entry t
    ↔ HasTerm b.terms s entry t) (sym g.start)
    (g.begins entry t) in
    let same = after_same (HasTerm a.terms a.start entry) (HasTerm b.terms b.start entry)
    (text_of a.alphabet word) begun term in
    subst (λ (al : Alphabet). After (HasTerm a.terms a.start entry) (text_of a.alphabet word) term
    ↔ After (HasTerm b.terms b.start entry) (text_of al word) term) (sym g.alphabet) same

leads_grown : (a b : Entries) → GrowsTo a b → (word : List ℕ) (items : List EntryTerm)
    → LeadsTo a.alphabet a.terms a.start word items → LeadsTo b.alphabet b.terms b.start word items
leads_grown a b g word items led =
    let known = g.known items led.right in
    let before = AfterText a.alphabet a.terms a.start word in
    let now = AfterText b.alphabet b.terms b.start word in
    let same = after_grown a b g word in
    record {
      right = known.0;
      members = λ entry term. (
        λ h.
            counts_alike before now same entry term
            ((led.members entry term).0 ((known.1 entry term).1 h)),
        λ c.
            (known.1 entry term).0
            ((led.members entry term).1
            (counts_alike now before (λ e t. ((same e t).1, (same e t).0)) entry term c)),
      );
      decided = λ entry.
          elim (led.decided entry) [
            | inl sure ↦ inl ((known.1 entry any_text).0 sure)
            | inr not_sure ↦ inr (λ h. not_sure ((known.1 entry any_text).1 h))
          ];
    }

pub kept : (a b : Entries) → GrowsTo a b
    → Keeps {S = Vec EntryTerm} (residuals a.alphabet a.terms a.start)
    (λ word state. LeadsTo a.alphabet a.terms a.start word state.items)
    (residuals b.alphabet b.terms b.start)
    (λ word state. LeadsTo b.alphabet b.terms b.start word state.items)
kept a b g = record {
  columns = ap (λ (al : Alphabet). al.width) g.alphabet;
  alike = λ u v. (
    λ same many.
        same_on many (now u) (before u) (now v)
        (same_each many (now u) (before u) (λ e t. ((at u e t).1, (at u e t).0)))
        (same_on many (before u) (before v) (now v) (same many)
        (same_each many (before v) (now v) (at v))),
    λ same many.
        same_on many (before u) (now u) (before v)
        (same_each many (before u) (now u) (at u))
        (same_on many (now u) (now v) (before v) (same many)
        (same_each many (now v) (before v) (λ e t. ((at v e t).1, (at v e t).0)))),
  );
  known = λ word state led. leads_grown a b g word state.items led;
}
  where
    before : List ℕ → TermSets
    before word = AfterText a.alphabet a.terms a.start word

    now : List ℕ → TermSets
    now word = AfterText b.alphabet b.terms b.start word

    at : (word : List ℕ) (entry : ℕ) (term : Term) → before word entry term ↔ now word entry term
    at word = after_grown a b g word

pub grows_itself : (a : Entries) → GrowsTo a a
grows_itself a = record {
  alphabet = refl;
  start = refl;
  count = refl;
  begins = λ entry term. (λ h. h, λ h. h);
  known = λ items right. (right, λ entry term. (λ h. h, λ h. h));
}

pub grows_on : (a b c : Entries) → GrowsTo a b → GrowsTo b c → GrowsTo a c
grows_on a b c p q = record {
  alphabet = q.alphabet ∙ p.alphabet;
  start = q.start ∙ p.start;
  count = q.count ∙ p.count;
  begins = λ entry term.
      let then = subst (λ (s : List EntryTerm).
      SameTerms b.terms c.terms s) p.start q.begins entry term in
      (λ h. then.0 ((p.begins entry term).0 h), λ h. (p.begins entry term).1 (then.1 h));
  known = λ items right.
      let first = p.known items right in
      let then = q.known items first.0 in (
        then.0,
        λ entry term. (
          λ h. (then.1 entry term).0 ((first.1 entry term).0 h),
          λ h. (first.1 entry term).1 ((then.1 entry term).1 h),
        ),
      );
}

-- ---- one step

-- residuals after a text are the same by the terms that more are known of
after_all_grown : (alphabet : Alphabet) (old new : List Term) (start : List EntryTerm)
    → Grows old new → AreResiduals old start → (word : List ℕ) (entry : ℕ) (term : Term)
    → AfterText alphabet old start word entry term ↔ AfterText alphabet new start word entry term
after_all_grown alphabet old new start grows begun word entry term =
    after_same (HasTerm old start entry) (HasTerm new start entry) (text_of alphabet word)
    ((grown old new grows start begun).1 entry) term

pub stepped : (alphabet : Alphabet) (old new : List Term) (start : List EntryTerm) (column : ℕ)
    (items derived next : List EntryTerm) → Grows old new → AreResiduals old start
    → AreResiduals new next → IsTrue (is_symbol (least_of alphabet column))
    → AreDerivatives old new (least_of alphabet column) items derived → AreCut new derived next
    → (word : List ℕ)
    → LeadsTo alphabet old start word items → LeadsTo alphabet new start (longer word column) next
stepped alphabet old new start column items derived next grows begun right is exact cut word led =
    record {
      right = right;
      members = λ entry term. (
        λ h.
            counts_alike (Stepped symbol before) now follows entry term
            ((counts entry term).0
            (counts_alike (HasTerm new derived) (Stepped symbol (HasTerm old items)) exact.members
            entry term ((cut.members entry term).0 h))),
        λ c.
            (cut.members entry term).1
            (counts_alike (Stepped symbol (HasTerm old items)) (HasTerm new derived)
            (λ e t. ((exact.members e t).1, (exact.members e t).0)) entry term
            ((counts entry term).1
            (counts_alike now (Stepped symbol before)
            (λ e t. ((follows e t).1, (follows e t).0)) entry term c))),
      );
      decided = cut.decided;
    }
  where
    symbol : ℕ
    symbol = least_of alphabet column

    before : TermSets
    before = AfterText alphabet old start word

    now : TermSets
    now = AfterText alphabet new start (longer word column)

    counts : (entry : ℕ) (term : Term) → Counts (Stepped symbol (HasTerm old items)) entry term
        ↔ Counts (Stepped symbol before) entry term
    counts = counts_stepped symbol is before (HasTerm old items) led.members led.decided

    follows : (entry : ℕ) (term : Term) → Stepped symbol before entry term ↔ now entry term
    follows entry term =
        let longer_by = after_longer alphabet old start word column entry term in
        let grown_by = after_all_grown alphabet old new start grows begun (longer word column) entry
        term in
        (λ d. grown_by.0 (longer_by.1 d), λ h. longer_by.0 (grown_by.1 h))

-- what counts of the residuals at the start
pub begun : (alphabet : Alphabet) (table : List Term) (start items : List EntryTerm)
    → AreResiduals table items → AreCut table start items → LeadsTo alphabet table start [] items
begun alphabet table start items right cut =
    record { right = right; members = cut.members; decided = cut.decided }
