use Rattle.std.proofs.Common.{ap, sym, ◌∙◌}
use Rattle.std.proofs.lemmas.Bool.{not_from_true, not_from_false}
use Rattle.tac_desk.specs.Reporting.{tally_report}
use Rattle.tac_desks.specs.Kept.{meaning_of}
use Rattle.tac_desks.proofs.TallyFacts.{absent, there, user_there}
use Rattle.tac_desks.proofs.tallies.is_missing.Goals as goal

pub returns-in-User-clause-there : goal.returns-in-User-clause-there
returns-in-User-clause-there c told book refused =
    let subject = c.args.subject.now in
    let is = ap tally_report (user_there (meaning_of c.args.policy.now book) subject.name subject.kind c.in-User.is) in
    absurd cc

pub returns-in-Group-clause-missing : goal.returns-in-Group-clause-missing
returns-in-Group-clause-missing c told book =
    let subject = c.args.subject.now in
    let none = c.is_none.ensures ∙ not_from_true _ told in
    sym (ap tally_report (absent (meaning_of c.args.policy.now book) subject.name c.find.result subject.kind c.in-Group.is c.find.ensures.found none))

pub returns-in-Group-clause-there : goal.returns-in-Group-clause-there
returns-in-Group-clause-there c told book refused =
    let subject = c.args.subject.now in
    let some = c.is_none.ensures ∙ not_from_false _ told in
    let is = ap tally_report (there (meaning_of c.args.policy.now book) subject.name c.find.result subject.kind c.in-Group.is c.find.ensures.found some) in
    absurd cc
