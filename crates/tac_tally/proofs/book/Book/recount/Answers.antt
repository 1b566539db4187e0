use Rattle.std.proofs.Common.{◌≡◌, ◌<◌, ℕ, Bool, List, length, sym, ap, subst, ◌∙◌}
use Rattle.std.specs.List.{All}
use Rattle.tac_tally.specs.Book.{Entry, items}
use Rattle.tac_tally.specs.Recount.{Computes, is_one_of, recount_of, settled, marks_at, spread}
use Rattle.tac_tally.proofs.Places.{places-within}
use Rattle.tac_tally.proofs.Settled.{spread-places, anew-users, settled-recount_of, if_ok}
use Rattle.tac_tally.proofs.book.Book.recount.Goals as goal

pub recount_at-requires-clause-places : goal.recount_at-requires-clause-places
recount_at-requires-clause-places g c =
    let entries = c.args.self.now.entries in
    let test : Entry → Bool = λ entry. is_one_of c.args.users.now entry.item.user in
    subst (λ l. All (λ (place : ℕ). place < length entries) l) (sym c.as_slice.ensures.value) (places-within test entries c.in_ok-places.places.items c.in_ok-places.ensures)

pub returns-clause-marks : goal.returns-clause-marks
returns-clause-marks g c =
    let entries = c.args.self.now.entries in
    let test : Entry → Bool = λ entry. is_one_of c.args.users.now entry.item.user in
    if_ok {P = λ recount. (denies : List ℕ → List ℕ → Bool) → Computes g.F.FnMut denies c.args.decide → recount ≡ spread (length entries) (marks_at denies (items entries) c.as_slice.result.now)}
    c.recount_at.result
    (λ recount told denies computes.
    told denies computes ∙ ap (λ l. spread (length entries) (marks_at denies (items entries) l)) c.as_slice.ensures.value
    ∙ spread-places denies test entries c.in_ok-places.places.items c.in_ok-places.ensures ∙ anew-users denies c.args.users.now entries)
    c.recount_at.ensures.marks

pub returns-clause-settles : goal.returns-clause-settles
returns-clause-settles g c =
    let entries = c.args.self.now.entries in
    if_ok {P = λ recount. (denies : List ℕ → List ℕ → Bool) → Computes g.F.FnMut denies c.args.decide → recount ≡ recount_of denies c.args.users.now (items entries)}
    c.recount_at.result
    (λ recount told denies computes. ap (λ l. settled l entries) (told denies computes) ∙ settled-recount_of denies c.args.users.now entries)
    (returns-clause-marks g c)
