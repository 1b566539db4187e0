-- Entries that grow: by terms alone, and by one more entry.
use Rattle.std.proofs.Common.{◌≡◌, ◌<◌, ◌≤◌, ◌+◌, ◌↔◌, ◌⊎◌, inl, inr, ℕ, List, [], ◌∷◌, ◌++◌, map, length, Less, Equal, Result, Ok, Err, refl, sym, subst, ◌∙◌, append-nil, arith, rules}
use Rattle.std.specs.Prelude.{All, OnErr, IfOk}
use Rattle.std.specs.List.{AllByRecursion}
use Rattle.std.specs.List.Sorted.{IsStrictlySortedBy, IsStrictlyIncreasing}
use Rattle.std.specs.Ordering.{nat_cmp}
use Rattle.std.proofs.lemmas.Bool.{cases_lt}
use Rattle.std.proofs.lemmas.Cmp.{nat_cmp_total, tied_itself}
use Rattle.std.proofs.lemmas.List.{get_or_append_left, get_or-append-add, length-append}
use Rattle.std.proofs.lemmas.List.Elements.{All-append, All-from_recursion, All-map, All-weaker, All-contains, All-head, All-tail}
use Rattle.std.proofs.lemmas.Map.Keys.{sorted_from_strictly_increasing}
use Rattle.pol_pattern.specs.Flat.{Term, Terms}
use Rattle.pol_pattern.specs.Sets.{InTerms}
use Rattle.pol_pattern.specs.Spelling.{Spells}
use Rattle.pol_residual.specs.Derivative.{Residual, ResidualLaw}
use Rattle.pol_deriv.specs.Table.{Grows, IsSetOf}
use Rattle.pol_scan.specs.Alphabet.{Alphabet, IsAlphabet, HasClasses}
use Rattle.pol_automaton.specs.declared.entry_term.EntryTerm.{EntryTerm}
use Rattle.pol_automaton.specs.Decision.{entry_at}
use Rattle.pol_automaton.specs.Scanning.{item_of, HasTerm, order}
use Rattle.pol_automaton.specs.Entries.{Entries, AreWhole, IsToldByResiduals, AreEntries, GrowsTo}
use Rattle.pol_automaton.specs.Having.{adds_set, added_within}
use Rattle.pol_automaton.specs.Telling.{grown}
use Rattle.pol_automaton.specs.Alike.{AreAlike}
use Rattle.pol_automaton.proofs.Divided.{IsDividedBy, classes_more}

pub on_err : {T E P : Type 0} (r : Result T E) → P → OnErr r P
on_err (Ok v) p = tt
on_err (Err e) p = p

-- ---- more terms

pub with_terms : Entries → List Term → Entries
with_terms e terms = record { alphabet = e.alphabet; terms = terms; start = e.start; count = e.count }

pub grows_terms : (e : Entries) (terms : List Term) → AreWhole e → Grows e.terms terms → GrowsTo e (record { alphabet = e.alphabet; terms = terms; start = e.start; count = e.count })
grows_terms e terms whole grows = record {
  alphabet = refl;
  start = refl;
  count = refl;
  begins = (grown e.terms terms grows e.start whole.right).1;
  known = grown e.terms terms grows;
}

pub whole_terms : (e : Entries) (terms : List Term) → AreWhole e → Grows e.terms terms → AreWhole (record { alphabet = e.alphabet; terms = terms; start = e.start; count = e.count })
whole_terms e terms whole grows = record { letters = whole.letters; right = (grown e.terms terms grows e.start whole.right).0; below = whole.below }

pub entries_kept : (a b : Entries) → GrowsTo a b → (entries : List (List ℕ)) → AreEntries a entries → AreEntries b entries
entries_kept a b g entries are = record {
  many = g.count ∙ are.many;
  classes = subst (λ (al : Alphabet). HasClasses al (AreAlike entries)) (sym g.alphabet) are.classes;
  told = are.told;
  spelled = are.spelled;
  first = λ entry flat lt spells term.
      let begun = subst (λ (s : List EntryTerm). HasTerm a.terms a.start entry term ↔ HasTerm b.terms s entry term) (sym g.start) (g.begins entry term) in
      let was = are.first entry flat lt spells term in
      (λ h. was.0 (begun.1 h), λ r. begun.0 (was.1 r));
}

-- ---- in order

below_all : (own : ℕ) (number : ℕ) (numbers : List ℕ) → AllByRecursion (λ m. nat_cmp number m ≡ Less) numbers → AllByRecursion (λ x. order (item_of own number) x ≡ Less) (map (item_of own) numbers)
below_all own number [] h = search rules
below_all own number (m ∷ numbers) h =
    let tie : nat_cmp own own ≡ Equal = tied_itself nat_cmp_total own in
    let less : nat_cmp number m ≡ Less = h.0 in
    let first : order (item_of own number) (item_of own m) ≡ Less = rw (tie, less) refl in
    (first, below_all own number numbers h.1)

items_sorted : (own : ℕ) (numbers : List ℕ) → IsStrictlySortedBy nat_cmp numbers → IsStrictlySortedBy order (map (item_of own) numbers)
unfolding IsStrictlySortedBy
items_sorted own [] h = h
items_sorted own (number ∷ numbers) h = (below_all own number numbers h.0, items_sorted own numbers h.1)

all_append : {A : Type 0} (P : A → Type 0) (xs ys : List A) → AllByRecursion P xs → AllByRecursion P ys → AllByRecursion P (xs ++ ys)
all_append P [] ys p q = q
all_append P (x ∷ xs) ys p q = (p.0, all_append P xs ys p.1 q)

above_all : (x : EntryTerm) (own : ℕ) (numbers : List ℕ) → x.entry < own → AllByRecursion (λ y. order x y ≡ Less) (map (item_of own) numbers)
above_all x own [] h = search rules
above_all x own (number ∷ numbers) h =
    let less : nat_cmp x.entry own ≡ Less = grind (arith, rules) in
    let first : order x (item_of own number) ≡ Less = rw less refl in
    (first, above_all x own numbers h)

sorted_append : (own : ℕ) (items : List EntryTerm) (numbers : List ℕ) → All (λ (x : EntryTerm). x.entry < own) items → IsStrictlySortedBy order items
    → IsStrictlySortedBy order (map (item_of own) numbers) → IsStrictlySortedBy order (items ++ map (item_of own) numbers)
unfolding IsStrictlySortedBy
sorted_append own [] numbers below p q = q
sorted_append own (x ∷ items) numbers below p q = (
  all_append (λ y. order x y ≡ Less) items (map (item_of own) numbers) p.0 (above_all x own numbers (All-head (λ (y : EntryTerm). y.entry < own) x items below)),
  sorted_append own items numbers (All-tail (λ (y : EntryTerm). y.entry < own) x items below) p.1 q,
)

-- ---- one more entry

pub told_by : ResidualLaw → (source : List ℕ) → IsToldByResiduals source
told_by law source text = (
  λ h.
      let w = (law h.0 text []).0 (subst (λ (l : List ℕ). InTerms h.0 l) (sym (append-nil text)) h.2) in
      (w.0, (h.0, h.1, w.1), w.2),
  λ w.
      let r = w.1 in
      (r.0, r.1, subst (λ (l : List ℕ). InTerms r.0 l) (append-nil text) ((law r.0 text []).1 (w.0, r.2, w.2))),
)

-- the numbers are the residual by the empty text of the pattern that the source spells
pub record AreFirst (table : List Term) (source numbers : List ℕ) : Type 0 where
  pub spelled : (flat : Terms) × Spells source flat
  pub told : IsToldByResiduals source
  pub sets : (flat : Terms) → Spells source flat → IsSetOf table numbers (Residual flat [])

abbrev pub with_entry : Entries → Alphabet → List Term → List ℕ → Entries
with_entry e alphabet terms numbers =
    record { alphabet = alphabet; terms = terms; start = e.start ++ map (item_of e.count) numbers; count = e.count + 1 }

pub whole_entry : (e : Entries) (alphabet : Alphabet) (terms : List Term) (source numbers : List ℕ) → AreWhole e → IsAlphabet alphabet → Grows e.terms terms → IsStrictlyIncreasing numbers
    → AreFirst terms source numbers → AreWhole (with_entry e alphabet terms numbers)
whole_entry e alphabet terms source numbers whole letters grows rising first = record {
  letters = letters;
  right = record {
    sorted = sorted_append e.count e.start numbers whole.below whole.right.sorted (items_sorted e.count numbers (sorted_from_strictly_increasing numbers rising));
    within = added_within e.terms terms e.count e.start numbers (Residual first.spelled.0 []) grows whole.right.within (first.sets first.spelled.0 first.spelled.1);
    distinct = grows.distinct;
  };
  below = All-append (λ (x : EntryTerm). x.entry < e.count + 1) e.start (map (item_of e.count) numbers)
      (All-weaker (λ (x : EntryTerm). x.entry < e.count) (λ (x : EntryTerm). x.entry < e.count + 1) (λ x lt. omega arith) e.start whole.below)
      (All-map (λ (x : EntryTerm). x.entry < e.count + 1) (item_of e.count) numbers (λ k d lt. omega arith));
}

pub entries_more : (e : Entries) (alphabet : Alphabet) (terms : List Term) (source numbers : List ℕ) → AreWhole e → IsDividedBy e.alphabet alphabet source → Grows e.terms terms
    → AreFirst terms source numbers → (entries : List (List ℕ)) → AreEntries e entries → AreEntries (with_entry e alphabet terms numbers) (entries ++ source ∷ [])
entries_more e alphabet terms source numbers whole divided grows new entries are = record {
  many = omega (arith, length-append entries (source ∷ []), are.many);
  classes = classes_more e.alphabet alphabet entries source are.classes divided;
  told = All-append IsToldByResiduals entries (source ∷ []) are.told (All-from_recursion IsToldByResiduals (source ∷ []) (new.told, tt));
  spelled = λ entry lt. spelled_at entry (place entry lt);
  first = λ entry flat lt spells term. first_at entry flat term (place entry lt) spells;
}
  where
    place : (entry : ℕ) → entry < length (entries ++ source ∷ []) → (entry < length entries) ⊎ (entry ≡ length entries)
    place entry lt = elim (cases_lt entry (length entries)) [ inl p ↦ inl p | inr p ↦ inr (omega (arith, p, lt, length-append entries (source ∷ []))) ]

    old_at : (entry : ℕ) → entry < length entries → entry_at (entries ++ source ∷ []) entry ≡ entry_at entries entry
    old_at entry lt = get_or_append_left entries (source ∷ []) [] entry lt

    new_at : (entry : ℕ) → entry ≡ length entries → entry_at (entries ++ source ∷ []) entry ≡ source
    new_at entry e = let at : entry ≡ length entries + 0 = omega arith in rw at (get_or-append-add entries (source ∷ []) 0 [])

    spelled_at : (entry : ℕ) → (entry < length entries) ⊎ (entry ≡ length entries) → (flat : Terms) × Spells (entry_at (entries ++ source ∷ []) entry) flat
    spelled_at entry (inl lt) = subst (λ (s : List ℕ). (flat : Terms) × Spells s flat) (sym (old_at entry lt)) (are.spelled entry lt)
    spelled_at entry (inr e) = subst (λ (s : List ℕ). (flat : Terms) × Spells s flat) (sym (new_at entry e)) new.spelled

    not_before : (entry : ℕ) (term : Term) → e.count ≤ entry → ¬ (HasTerm e.terms e.start entry term)
    not_before entry term le h =
        let lt : entry < e.count = All-contains (λ (x : EntryTerm). x.entry < e.count) e.start (item_of entry h.0) whole.below h.1 in
        absurd (omega arith)

    first_at : (entry : ℕ) (flat : Terms) (term : Term) → (entry < length entries) ⊎ (entry ≡ length entries) → Spells (entry_at (entries ++ source ∷ []) entry) flat
        → HasTerm terms (e.start ++ map (item_of e.count) numbers) entry term ↔ Residual flat [] term
    first_at entry flat term (inl lt) spells =
        let own = new.spelled in
        let has = adds_set e.terms terms e.count e.start numbers (Residual own.0 []) grows whole.right.within (new.sets own.0 own.1) entry term in
        let was = are.first entry flat lt (subst (λ (s : List ℕ). Spells s flat) (old_at entry lt) spells) term in (
          λ h. elim (has.0 h) [ inl k ↦ was.0 k | inr k ↦ absurd (omega (arith, k.0, lt, are.many)) ],
          λ r. has.1 (inl (was.1 r)),
        )
    first_at entry flat term (inr at) spells =
        let has = adds_set e.terms terms e.count e.start numbers (Residual flat []) grows whole.right.within (new.sets flat (subst (λ (s : List ℕ). Spells s flat) (new_at entry at) spells)) entry term in (
          λ h. elim (has.0 h) [ inl k ↦ absurd (not_before entry term (omega (arith, at, are.many)) k) | inr k ↦ k.1 ],
          λ r. has.1 (inr (omega (arith, at, are.many), r)),
        )

pub no_entries : (alphabet : Alphabet) → HasClasses alphabet (λ a b. Unit {0}) → AreEntries (record { alphabet = alphabet; terms = []; start = []; count = 0 }) []
no_entries alphabet classes = record {
  many = refl;
  classes = λ a b p q. (λ _ k d lt. absurd (omega arith), λ _. (classes a b p q).1 tt);
  told = λ k d lt. absurd (omega arith);
  spelled = λ entry lt. absurd (omega arith);
  first = λ entry flat lt spells term. absurd (omega arith);
}

pub no_whole : (alphabet : Alphabet) → IsAlphabet alphabet → AreWhole (record { alphabet = alphabet; terms = []; start = []; count = 0 })
unfolding IsStrictlySortedBy
no_whole alphabet letters = record {
  letters = letters;
  right = record { sorted = tt; within = λ k d lt. absurd (omega arith); distinct = λ a b term p q. absurd cc };
  below = λ k d lt. absurd (omega arith);
}

pub if_ok_both : {T E : Type 0} (P Q R : T → Type 0) (r : Result T E) → ((x : T) → P x → Q x → R x) → IfOk r P → IfOk r Q → IfOk r R
if_ok_both P Q R (Ok x) both p q = both x p q
if_ok_both P Q R (Err e) both p q = tt
