use Rattle.std.proofs.Common.{◌≡◌, rules, ap, sym, ◌∙◌}
use Rattle.std.proofs.lemmas.Bool.{false≢true}
use Rattle.tac_tally.specs.Book.{IsFull, with_entry}
use Rattle.tac_tally.specs.Recount.{is_denied}
use Rattle.tac_desk.specs.Asking.{stored}
use Rattle.tac_desk.specs.Reporting.{denies}
use Rattle.tac_desks.specs.Kept.{meaning_of}
use Rattle.tac_desks.proofs.Keeping.{stored_by_book, marks_kept}
use Rattle.tac_desks.proofs.live_desk.LiveDesk.store.Goals as goal

pub invariant_of-self-2 : goal.invariant_of-self-2
invariant_of-self-2 c =
    let desk = c.self.inside in
    let mark = c.is_denied-denied.ensures ∙ ap (is_denied (denies desk.live)) (sym c.in_ok-copy.ensures) in
    let right = marks_kept (denies desk.live) desk.book.limit desk.book.entries c.in_ok-copy.copy c.is_denied-denied.result mark c.self.invariant.0 in
    let kept : c.store.new.self ≡ with_entry c.in_ok-copy.copy c.is_denied-denied.result desk.book = search rules in
    (rw kept right, c.self.invariant.1)

pub returns-clause-after : goal.returns-clause-after
returns-clause-after c =
    let desk = c.self.inside in
    let room : IsFull desk.book → ⊥ = λ full. false≢true (sym c.if-is_full.false ∙ c.is_full.ensures.1 full) in
    let kept : c.store.new.self ≡ with_entry c.in_ok-copy.copy c.is_denied-denied.result desk.book = search rules in
    rw (← c.self.view_is, kept) (
    stored_by_book desk.live desk.book c.in_ok-copy.copy c.is_denied-denied.result room
    ∙ ap (λ item. (stored (meaning_of desk.live desk.book) item).meaning) c.in_ok-copy.ensures
    )
