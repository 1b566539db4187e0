use Rattle.std.proofs.Common.{◌+◌, ◌*◌, ◌^◌, ◌≤◌, length, sym, arith}
use Rattle.tac_tally.specs.Book.{beside}
use Rattle.tac_tally.proofs.Beside.{length-beside}
use Rattle.tac_tally.proofs.Standing.{stands_found, none_found, small_found, tally-none}
use Rattle.tac_tally.proofs.book.Book.tally.Goals as goal

pub returns-in-Some-clause-small : goal.returns-in-Some-clause-small
returns-in-Some-clause-small c =
    let book = c.self.inside in
    let user = c.args.user.now in
    let entries = beside book.records.items book.marks.items in
    let many = length-beside book.records.items book.marks.items c.self.invariant.0 in
    let few : length entries * 2 ^ 32 + 1 ≤ 2 ^ 96 = omega (arith, many, book.records.ok.0, book.records.small) in
    let s = stands_found user entries _ c.in-Some.account.now (sym c.in-Some.ensures) (c.self.invariant.2 user) in
    c.tally.ensures.small (small_found user entries c.in-Some.account.now (2 ^ 96) few s)

pub returns-in-None-clause-value : goal.returns-in-None-clause-value
returns-in-None-clause-value c =
    let book = c.self.inside in
    let user = c.args.user.now in
    let entries = beside book.records.items book.marks.items in
    rw (← c.self.view_is) (sym (tally-none user entries (none_found user entries _ (sym c.in-None.ensures) (c.self.invariant.2 user))))
