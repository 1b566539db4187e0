use Rattle.std.proofs.Common.{◌≡◌, sym, ap, ◌∙◌}
use Rattle.std.proofs.lemmas.Bool.{not_from_true, not_from_false}
use Rattle.tac_desk.specs.Reporting.{tally_report}
use Rattle.tac_tally.specs.Tally.{tally_of}
use Rattle.tac_desks.specs.Kept.{meaning_of, entries_by}
use Rattle.tac_desks.proofs.TallyFacts.{absent, there, user_there}
use Rattle.tac_desks.proofs.live_reports.tally_by_marks.Goals as goal

pub returns-in-User-clause-found : goal.returns-in-User-clause-found
returns-in-User-clause-found c =
    let subject = c.args.subject.now in
    let is = ap tally_report (user_there (meaning_of c.args.policy.now c.args.book.now) subject.name subject.kind c.in-User.is) in
    let counted : c.tally.result ≡ tally_of subject.name (entries_by c.args.policy.now c.args.book.now)
    = rw (← c.requires, ← c.as_slice.ensures.value) c.tally.ensures.value in
    rw counted (sym is)

pub returns-in-User-clause-sure : goal.returns-in-User-clause-sure
returns-in-User-clause-sure c refused =
    let subject = c.args.subject.now in
    let is = ap tally_report (user_there (meaning_of c.args.policy.now c.args.book.now) subject.name subject.kind c.in-User.is) in
    absurd cc

pub returns-then-is_none-clause-found : goal.returns-then-is_none-clause-found
returns-then-is_none-clause-found c =
    let subject = c.args.subject.now in
    let none = c.is_none.ensures ∙ not_from_true _ c.if-is_none.true in
    sym (ap tally_report (absent (meaning_of c.args.policy.now c.args.book.now) subject.name c.find.result subject.kind c.in-Group.is c.find.ensures.found none))

pub returns-in_err-tally-in-Group-clause-sure : goal.returns-in_err-tally-in-Group-clause-sure
returns-in_err-tally-in-Group-clause-sure c refused =
    let subject = c.args.subject.now in
    let some = c.is_none.ensures ∙ not_from_false _ c.if-is_none.false in
    let is = ap tally_report (there (meaning_of c.args.policy.now c.args.book.now) subject.name c.find.result subject.kind c.in-Group.is c.find.ensures.found some) in
    absurd cc

pub returns-in_ok-tally-in-Group-clause-found : goal.returns-in_ok-tally-in-Group-clause-found
returns-in_ok-tally-in-Group-clause-found c =
    let subject = c.args.subject.now in
    let some = c.is_none.ensures ∙ not_from_false _ c.if-is_none.false in
    let is = ap tally_report (there (meaning_of c.args.policy.now c.args.book.now) subject.name c.find.result subject.kind c.in-Group.is c.find.ensures.found some) in
    rw c.in_ok-tally-in-Group.ensures (sym is)

pub returns-in_ok-tally-in-Group-clause-sure : goal.returns-in_ok-tally-in-Group-clause-sure
returns-in_ok-tally-in-Group-clause-sure c refused =
    let subject = c.args.subject.now in
    let some = c.is_none.ensures ∙ not_from_false _ c.if-is_none.false in
    let is = ap tally_report (there (meaning_of c.args.policy.now c.args.book.now) subject.name c.find.result subject.kind c.in-Group.is c.find.ensures.found some) in
    absurd cc
