-- What marks that were put in leave of a book.
use Rattle.std.proofs.Common.{◌≡◌, Bool, List, Option, refl, sym, ap, ◌∙◌}
use Rattle.pol_text.specs.declared.subject.Subject.{Subject}
use Rattle.tac_tally.specs.Book.{Contents, items}
use Rattle.tac_tally.specs.Recount.{settled, marked}
use Rattle.tac_desk.specs.Meaning.{with_policy}
use Rattle.tac_desk.specs.Reporting.{denies}
use Rattle.tac_desks.specs.Kept.{meaning_of, entries_by}
use Rattle.tac_desks.specs.Metered.{HasMarksBy}
use Rattle.tac_desks.proofs.MarkFacts.{items-marked}

module _ (policy : List Subject) (old new : Contents) (marks : List (Option Bool)) (is : new ≡ record old { entries = settled marks old.entries }) (right : settled marks old.entries ≡ entries_by policy old) where
  entries_so : new.entries ≡ marked (denies policy) (items old.entries)
  entries_so = ap (λ (b : Contents). b.entries) is ∙ right

  records_so : items new.entries ≡ items old.entries
  records_so = ap items entries_so ∙ items-marked (denies policy) (items old.entries)

  -- the records stay, and the limit does
  pub settled_meaning : (before : List Subject) → meaning_of policy new ≡ with_policy policy (meaning_of before old)
  settled_meaning before =
      let limit : new.limit ≡ old.limit = ap (λ (b : Contents). b.limit) is in
      let forgotten : new.forgotten ≡ old.forgotten = ap (λ (b : Contents). b.forgotten) is in
      rw (records_so, limit, forgotten) refl

  -- the marks are by the new policy
  pub settled_marks : HasMarksBy policy new
  settled_marks = entries_so ∙ sym (ap (marked (denies policy)) records_so)
