use Rattle.std.proofs.Common.{◌≡◌, rules, false, ap, sym, ◌∙◌}
use Rattle.std.proofs.lemmas.Bool.{false≢true}
use Rattle.tac_tally.specs.Book.{IsFull, with_entry}
use Rattle.tac_desk.specs.Asking.{stored}
use Rattle.tac_desks.specs.Kept.{meaning_of}
use Rattle.tac_desks.proofs.Keeping.{stored_by_book}
use Rattle.tac_desks.proofs.plain.PlainDesk.store.Goals as goal

pub returns-clause-after : goal.returns-clause-after
returns-clause-after c =
    let desk = c.self.inside in
    let room : IsFull desk.book → ⊥ = λ full. false≢true (sym c.if-is_full.false ∙ c.is_full.ensures.1 full) in
    let kept : c.store.new.self ≡ with_entry c.in_ok-copy.copy false desk.book = search rules in
    rw (← c.self.view_is, kept) (
    stored_by_book desk.policy desk.book c.in_ok-copy.copy false room
    ∙ ap (λ item. (stored (meaning_of desk.policy desk.book) item).meaning) c.in_ok-copy.ensures
    )
