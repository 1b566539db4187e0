-- The search ends where no more classes are left.
use Rattle.std.proofs.Common.{arith}
use Rattle.pol_scan.specs.Words.{word_at}
use Rattle.pol_scan.proofs.Lists.{length-zip}
use Rattle.pol_scan.proofs.Classes.{different_before, no_more}
use Rattle.pol_scan.proofs.Seeking.{least_before, none_at_all, accepted_now}
use Rattle.pol_scan.proofs.searching.seek.Goals as goal

pub seek_in_row-requires-clause-number : goal.seek_in_row-requires-clause-number
seek_in_row-requires-clause-number g c = omega (arith, length-zip _ _ _ c.rows.invariant.seeks.found.led, c.if-number-len.false, c.len.ensures.len)

pub returns-in-Some-clause-least : goal.returns-in-Some-clause-least
returns-in-Some-clause-least g c =
    let now = c.seek_in_row.new.machine in
    let grows = g.met.A.Machine.transitive c.args.machine.now c.rows.machine now c.rows.invariant.grows c.in_ok-at.ensures.grows in
    least_before _ _ _ _ (g.met.A.Machine.keeps c.args.machine.now now grows) _ _ (g.met.A.Acceptor.stays c.args.machine.now now grows) c.in_ok-word.word.items (word_at c.seek_in_row.new.found.words c.in-Some.at) c.in_ok-word.ensures
    (rw c.in-Some.is at c.in_ok-at.ensures.least)

pub returns-then-number-len-clause-none : goal.returns-then-number-len-clause-none
returns-then-number-len-clause-none g c word a =
    let now = c.rows.machine in
    let known = c.rows.invariant in
    let keeps = g.met.A.Machine.keeps c.args.machine.now now known.grows in
    none_at_all _ _ _ (g.met.A.Acceptor.respects now) _ _ c.rows.number 0 known.seeks
    (omega (arith, length-zip _ _ _ known.seeks.found.led, c.if-number-len.true, c.len.ensures.len)) word
    (accepted_now _ _ _ _ keeps _ _ (g.met.A.Acceptor.stays c.args.machine.now now known.grows) word a)

pub returns-clause-none : goal.returns-clause-none
returns-clause-none g c word a =
    let now = c.rows.machine in
    let known = c.rows.invariant in
    let keeps = g.met.A.Machine.keeps c.args.machine.now now known.grows in
    let few = no_more _ c.args.bound c.requires.bound _ (different_before _ _ _ _ keeps _ known.seeks.found.different) in
    none_at_all _ _ _ (g.met.A.Acceptor.respects now) _ _ c.rows.number 0 known.seeks (omega (arith, few, c.rows-test.false)) word
    (accepted_now _ _ _ _ keeps _ _ (g.met.A.Acceptor.stays c.args.machine.now now known.grows) word a)
