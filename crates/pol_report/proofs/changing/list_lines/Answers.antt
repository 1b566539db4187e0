use Rattle.std.proofs.Common.{◌++◌, []}
use Rattle.pol_meaning.specs.LineChanges.{ChangesOf, users_of, users_alone}
use Rattle.pol_report.proofs.ListFacts.{no_changes, only_changes}
use Rattle.pol_report.proofs.changing.list_lines.Goals as goal

pub list_present-requires : goal.list_present-requires
list_present-requires c = record { known = c.new-known.ensures c.args.policies.now.before c.args.policies.now.after }

pub returns-clause-found : goal.returns-clause-found
returns-clause-found c =
    let live = c.args.policies.now.before in
    let after = c.args.policies.now.after in
    let none : ChangesOf live after [] c.new-changes.result = rw c.new-changes.ensures (no_changes live after) in
    c.in_ok-list_gone.ensures (users_of after) (c.in_ok-list_present.ensures.listed [] none)

pub returns-clause-only : goal.returns-clause-only
returns-clause-only c other h =
    let live = c.args.policies.now.before in
    let after = c.args.policies.now.after in
    only_changes live after (users_of after ++ users_alone after live) c.list_gone.new.changes other (returns-clause-found c) h
