-- The residuals of entries as the scan keeps them: the terms by their numbers, each with its entry.
use Rattle.std.specs.Prelude.{◌↔◌, ◌<◌, ℕ, List, ◌∷◌, [], length, All, Contains}
use Rattle.std.specs.List.Sorted.{IsStrictlySortedBy}
use Rattle.std.specs.Ordering.{nat_cmp, ordering_then}
use Rattle.std.specs.declared.cmp.Ordering.{Ordering}
use Rattle.std.proofs.Common.{subst, sym}
use Rattle.std.proofs.lemmas.List.{map-append}
use Rattle.pol_pattern.specs.Flat.{Term}
use Rattle.pol_deriv.specs.Table.{Means, IsDistinct}
use Rattle.pol_scan.specs.Alphabet.{Alphabet, text_of, least_of}
use Rattle.pol_scan.specs.Words.{longer}
use Rattle.pol_scan.specs.Congruence.{Congruence}
use Rattle.pol_automaton.specs.declared.entry_term.EntryTerm.{EntryTerm}
use Rattle.pol_automaton.specs.After.{After, after_push}
use Rattle.pol_automaton.specs.Cutting.{Counts, IsSureOrNot, AreSame, Stepped, same_itself, same_back}
use Rattle.pol_automaton.specs.Cutting.{same_on, same_each, same_stepped}

abbrev pub item_of : ℕ → ℕ → EntryTerm
item_of entry number = record { entry = entry; term = number }

-- the residual of the entry has the term
abbrev pub HasTerm : List Term → List EntryTerm → ℕ → Term → Type 0
HasTerm table items entry term =
    (number : ℕ) × Contains items (item_of entry number) × Means table number term

-- in the order of the entries, then of the numbers
abbrev pub order : EntryTerm → EntryTerm → Ordering
order x y = ordering_then (nat_cmp x.entry y.entry) (nat_cmp x.term y.term)

-- residuals by numbers of the table, in order, each once
pub record AreResiduals (table : List Term) (items : List EntryTerm) : Type 0 where
  pub sorted : IsStrictlySortedBy order items
  pub within : All (λ item. item.term < length table) items
  pub distinct : IsDistinct table

-- after the residuals at the start, the residual of an entry by the text that a word spells
abbrev pub AfterText : Alphabet → List Term → List EntryTerm → List ℕ → ℕ → Term → Type 0
AfterText alphabet table start word entry term =
    After (HasTerm table start entry) (text_of alphabet word) term

-- the word leads to what counts of the residuals, and which entry is sure is known
pub record LeadsTo (alphabet : Alphabet) (table : List Term) (start : List EntryTerm)
    (word : List ℕ)
    (items : List EntryTerm) : Type 0 where
  pub right : AreResiduals table items
  pub members : (entry : ℕ) (term : Term)
      → HasTerm table items entry term ↔ Counts (AfterText alphabet table start word) entry term
  pub decided : (entry : ℕ) → IsSureOrNot (HasTerm table items) entry

-- words are the same if the residuals after them are, as far as they count
abbrev pub AlikeAfter : Alphabet → List Term → List EntryTerm → List ℕ → List ℕ → Type 0
AlikeAfter alphabet table start u v =
    AreSame (AfterText alphabet table start u) (AfterText alphabet table start v)

-- the residuals after one column more
pub after_longer : (alphabet : Alphabet) (table : List Term) (start : List EntryTerm)
    (word : List ℕ) (column entry : ℕ) (term : Term)
    → AfterText alphabet table start (longer word column) entry term
    ↔ Stepped (least_of alphabet column) (AfterText alphabet table start word) entry term
after_longer alphabet table start word column entry term =
    let set = HasTerm table start entry in
    let at : List ℕ → Type 0 = λ text. After set text term in
    let spelled = map-append (least_of alphabet) word (column ∷ []) in
    let pushed = after_push set (text_of alphabet word) (least_of alphabet column) term in
    (λ h. pushed.0 (subst at spelled h), λ d. subst at (sym spelled) (pushed.1 d))

pub alike_longer : (alphabet : Alphabet) (table : List Term) (start : List EntryTerm)
    (u v : List ℕ) (column : ℕ) → AlikeAfter alphabet table start u v
    → AlikeAfter alphabet table start (longer u column) (longer v column)
alike_longer alphabet table start u v column same many =
    let symbol = least_of alphabet column in
    let before = AfterText alphabet table start u in
    let other = AfterText alphabet table start v in
    let now = AfterText alphabet table start (longer u column) in
    let then = AfterText alphabet table start (longer v column) in
    same_on many now (Stepped symbol before) then
    (same_each many now (Stepped symbol before) (after_longer alphabet table start u column))
    (same_on many (Stepped symbol before) (Stepped symbol other) then
    (same_stepped symbol many before other (same many))
    (same_back many then (Stepped symbol other)
    (same_each many then (Stepped symbol other) (after_longer alphabet table start v column))))

-- words are told apart by the residuals after them
abbrev pub residuals : Alphabet → List Term → List EntryTerm → Congruence
residuals alphabet table start = record {
  width = alphabet.width;
  same = AlikeAfter alphabet table start;
  reflexive = λ u. same_itself (AfterText alphabet table start u);
  symmetric = λ u v same many.
      same_back many (AfterText alphabet table start u) (AfterText alphabet table start v) (same many);
  transitive = λ u v w one two many.
      same_on many (AfterText alphabet table start u) (AfterText alphabet table start v)
      (AfterText alphabet table start w) (one many) (two many);
  followed = λ u v column in_range same. alike_longer alphabet table start u v column same;
}
