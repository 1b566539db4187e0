use Rattle.std.proofs.Common.{[], ◌++◌, sym, ap, subst, ◌∙◌, append-nil}
use Rattle.tac_tally.specs.Book.{beside}
use Rattle.tac_tally.specs.Accounts.{ArePlaces, is_by}
use Rattle.tac_tally.proofs.Places.{places-none, places-absent, places-more}
use Rattle.tac_tally.proofs.Standing.{stands_found, none_found}
use Rattle.tac_tally.proofs.book.Book.places_of.Goals as goal

pub users-init : goal.users-init
users-init c = places-none c.args.self.now.entries c.new-places.result.items c.new-places.ensures.items

pub users-preserved-in_default : goal.users-preserved-in_default
users-preserved-in_default c =
    let user = c.as_slice.result.now in
    let entries = c.args.self.now.entries in
    let none = none_found user (beside c.self.inside.records.items c.self.inside.marks.items) _ (sym c.in_default.ensures) (c.self.invariant.2 user) in
    let absent : ArePlaces (is_by c.user-item.result) entries [] =
    subst (λ u. ArePlaces (is_by u) entries []) c.as_slice.ensures (rw (← c.self.view_is) (places-absent user _ none)) in
    rw (sym (append-nil c.users.places.items)) (places-more c.args.users.now c.users.user-index c.user-item.result entries c.users.places.items [] c.users-test.true c.user-item.is c.users.invariant absent)

pub users-preserved : goal.users-preserved
users-preserved c =
    let user = c.as_slice.result.now in
    let entries = c.args.self.now.entries in
    let account = c.in-Some.account.now in
    let s = stands_found user (beside c.self.inside.records.items c.self.inside.marks.items) _ account (sym c.in-Some.ensures) (c.self.invariant.2 user) in
    let own : ArePlaces (is_by c.user-item.result) entries account.places.items =
    subst (λ u. ArePlaces (is_by u) entries account.places.items) c.as_slice.ensures (rw (← c.self.view_is) s.places) in
    let items = c.in_ok-extend_from_slice.ensures.items ∙ ap (λ l. c.users.places.items ++ l) c.as_slice-in-users.ensures.value in
    rw items (places-more c.args.users.now c.users.user-index c.user-item.result entries c.users.places.items account.places.items c.users-test.true c.user-item.is c.users.invariant own)
