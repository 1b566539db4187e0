use Rattle.std.proofs.Common.{[], ◌∷◌, ◌++◌, subst, ◌*◌, ◌+◌, ◌^◌, ◌≤◌, Some, None, refl, ◌∙◌, length, arith}
use Rattle.std.specs.BTreeMap.{UpdatesBy}
use Rattle.tac_tally.specs.Book.{Entry}
use Rattle.tac_tally.specs.Accounts.{Stands, Run}
use Rattle.tac_tally.specs.declared.accounts.Accounts.{Accounts}
use Rattle.tac_tally.proofs.Texts.{by_items, at_text}
use Rattle.tac_tally.proofs.Standing.{stands_found, none_found, small_found, found_of, some_there, run-written, run-stays, on_ok, on_err}
use Rattle.tac_tally.proofs.accounts.Accounts.enter.Goals as goal

pub enter-requires : goal.enter-requires
enter-requires c =
    let user = c.args.record.now.user in
    let found = found_of c.args.self.now user c.as_slice-user.result.now (Some c.in-Some.account.now) c.as_slice-user.ensures c.in-Some.ensures.value in
    let small : length c.requires.0 * 2 ^ 32 + 1 ≤ 2 ^ 127 = omega (arith, c.requires.2, c.ranges.place.fits) in
    small_found user c.requires.0 c.in-Some.account.now (2 ^ 127) small (stands_found user c.requires.0 _ c.in-Some.account.now found (c.requires.1 user))

pub returns-in-Some-clause-ok : goal.returns-in-Some-clause-ok
returns-in-Some-clause-ok c = λ entries size h.
    let user = c.args.record.now.user in
    let found = found_of c.args.self.now user c.as_slice-user.result.now (Some c.in-Some.account.now) c.as_slice-user.ensures c.in-Some.ensures.value in
    let s = stands_found user entries _ c.in-Some.account.now found (h user) in
    let updates = (c.get_mut.follows.holds c.enter.new.self).3 (some_there _ c.in-Some.account.now c.in-Some.ensures.value) in
    let new : Accounts = record { alloc = c.args.self.now.alloc; by_user = c.get_mut.follows.lender c.enter.new.self } in
    let entry : Entry = record { item = c.args.record.now; denied = c.args.denied } in
    on_ok {P = Stands user (entries ++ entry ∷ []) c.enter.new.self} {Q = Run (entries ++ entry ∷ []) new} c.enter.result (λ t. run-written entries entry c.args.self.now new c.as_slice-user.result.now c.enter.new.self c.as_slice-user.ensures updates t h) (c.enter.ensures.ok entries size s)

pub returns-in-Some-clause-err : goal.returns-in-Some-clause-err
returns-in-Some-clause-err c = λ entries h.
    let user = c.args.record.now.user in
    let found = found_of c.args.self.now user c.as_slice-user.result.now (Some c.in-Some.account.now) c.as_slice-user.ensures c.in-Some.ensures.value in
    let s = stands_found user entries _ c.in-Some.account.now found (h user) in
    let updates = (c.get_mut.follows.holds c.enter.new.self).3 (some_there _ c.in-Some.account.now c.in-Some.ensures.value) in
    let new : Accounts = record { alloc = c.args.self.now.alloc; by_user = c.get_mut.follows.lender c.enter.new.self } in
    on_err {P = Stands user entries c.enter.new.self} {Q = Run entries new} c.enter.result (λ t. run-stays entries c.args.self.now new user c.as_slice-user.result.now c.enter.new.self c.as_slice-user.ensures updates t h) (c.enter.ensures.err user entries s)

pub enter-requires-2 : goal.enter-requires-2
enter-requires-2 c = small_found [] [] c.new-account.result (2 ^ 127) (omega arith) (c.new-account.ensures [] [] refl)

pub returns-clause-ok : goal.returns-clause-ok
returns-clause-ok c = λ entries size h.
    let user = c.args.record.now.user in
    let missing = found_of c.args.self.now user c.as_slice-user.result.now None c.as_slice-user.ensures c.in_default.ensures.value in
    let none = none_found user entries _ missing (h user) in
    let s = c.in_ok-enter.ensures.ok entries size (c.new-account.ensures user entries none) in
    let is = c.in_ok-name.ensures.items ∙ c.as_slice-user.ensures in
    let new : Accounts = record { alloc = c.args.self.now.alloc; by_user = c.insert.new.self } in
    let entry : Entry = record { item = c.args.record.now; denied = c.args.denied } in
    let updates = subst (λ m. UpdatesBy by_items (at_text c.in_ok-name.name.items) m c.insert.new.self (Some c.enter-2.new.self)) c.get_mut.follows.holds-at-none c.in_ok-insert.ensures.updates in
    run-written entries entry c.args.self.now new c.in_ok-name.name.items c.enter-2.new.self is updates s h
