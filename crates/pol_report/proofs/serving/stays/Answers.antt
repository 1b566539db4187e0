use Rattle.std.proofs.Common.{◌≡◌, [], rules}
use Rattle.pol_meaning.specs.LineChanges.{permits}
use Rattle.pol_report.proofs.ServingFacts.{stays}
use Rattle.pol_report.proofs.serving.stays.Goals as goal

pub returns-then-gives_the_same : goal.returns-then-gives_the_same
returns-then-gives_the_same c = λ yes.
    let before = c.args.policies.now.before in
    let after = c.args.policies.now.after in
    let user = c.args.user.now in
    let permitted : permits before user [] ≡ permits after user [] = search rules in
    stays before after user (c.gives_the_same.ensures.services c.if-gives_the_same.true) (c.gives_the_same.ensures.shell c.if-gives_the_same.true) permitted
