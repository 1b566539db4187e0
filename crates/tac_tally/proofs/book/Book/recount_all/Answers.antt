use Rattle.std.proofs.Common.{◌≡◌, ◌<◌, ℕ, Bool, true, List, length, sym, ap, subst, ◌∙◌}
use Rattle.std.specs.List.{All}
use Rattle.tac_tally.specs.Book.{Entry, items}
use Rattle.tac_tally.specs.Recount.{Computes, settled, marks_at, spread}
use Rattle.tac_tally.proofs.Places.{places-within}
use Rattle.tac_tally.proofs.Settled.{spread-places, settled-all, if_ok}
use Rattle.tac_tally.proofs.book.Book.recount_all.Goals as goal

pub recount_at-requires-clause-places : goal.recount_at-requires-clause-places
recount_at-requires-clause-places g c =
    let entries = c.args.self.now.entries in
    let test : Entry → Bool = λ entry. true in
    subst (λ l. All (λ (place : ℕ). place < length entries) l) (sym c.as_slice.ensures.value) (places-within test entries c.in_ok-places.places.items c.in_ok-places.ensures)

pub returns-clause-settles : goal.returns-clause-settles
returns-clause-settles g c =
    let entries = c.args.self.now.entries in
    let test : Entry → Bool = λ entry. true in
    if_ok {P = λ recount. (denies : List ℕ → List ℕ → Bool) → Computes g.F.FnMut denies c.args.decide → recount ≡ spread (length entries) (marks_at denies (items entries) c.as_slice.result.now)}
    c.recount_at.result
    (λ recount told denies computes.
    ap (λ l. settled l entries)
    (told denies computes ∙ ap (λ l. spread (length entries) (marks_at denies (items entries) l)) c.as_slice.ensures.value
    ∙ spread-places denies test entries c.in_ok-places.places.items c.in_ok-places.ensures)
    ∙ settled-all denies entries)
    c.recount_at.ensures.marks
