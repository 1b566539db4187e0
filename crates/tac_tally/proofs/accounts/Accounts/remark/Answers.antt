use Rattle.std.proofs.Common.{Some}
use Rattle.tac_tally.specs.Book.{Entry}
use Rattle.tac_tally.specs.declared.accounts.Accounts.{Accounts}
use Rattle.tac_tally.proofs.Standing.{stands_found, found_of, some_there}
use Rattle.tac_tally.proofs.Remarked.{drift_fits, drift_holds, run-unfound, run-rewritten}
use Rattle.tac_tally.proofs.accounts.Accounts.remark.Goals as goal

pub returns-in_default : goal.returns-in_default
returns-in_default c = λ entries place at h.
    let entry : Entry = record { item = c.args.record.now; denied = c.args.was } in
    let new : Accounts = record { alloc = c.args.self.now.alloc; by_user = c.get_mut.follows.lender-at-none } in
    run-unfound place c.args.denied entries entry c.args.self.now new c.as_slice.result.now at c.as_slice.ensures c.in_default.ensures.value c.get_mut.follows.holds-at-none h

pub with_mark-account-requires-clause-below : goal.with_mark-account-requires-clause-below
with_mark-account-requires-clause-below c =
    let user = c.args.record.now.user in
    let found = found_of c.args.self.now user c.as_slice.result.now (Some c.in-Some.account.now) c.as_slice.ensures c.in-Some.ensures.value in
    drift_fits user c.requires.0 c.in-Some.account.now c.requires.3 (stands_found user c.requires.0 _ c.in-Some.account.now found (c.requires.2 user))

pub with_mark-account-requires-clause-counts : goal.with_mark-account-requires-clause-counts
with_mark-account-requires-clause-counts c =
    let user = c.args.record.now.user in
    let entry : Entry = record { item = c.args.record.now; denied = c.args.was } in
    let found = found_of c.args.self.now user c.as_slice.result.now (Some c.in-Some.account.now) c.as_slice.ensures c.in-Some.ensures.value in
    drift_holds c.requires.1 c.requires.0 entry c.in-Some.account.now c.requires.4 (stands_found user c.requires.0 _ c.in-Some.account.now found (c.requires.2 user))

pub returns : goal.returns
returns c = λ entries place at h.
    let entry : Entry = record { item = c.args.record.now; denied = c.args.was } in
    let account = c.in-Some.account.now in
    let counts = c.with_mark-account.result in
    let after = record account { counts = counts } in
    let new : Accounts = record { alloc = c.args.self.now.alloc; by_user = c.get_mut.follows.lender after } in
    let updates = (c.get_mut.follows.holds after).3 (some_there _ account c.in-Some.ensures.value) in
    run-rewritten place c.args.denied entries entry c.args.self.now new c.as_slice.result.now account counts at c.as_slice.ensures c.in-Some.ensures.value c.with_mark-account.ensures updates h
