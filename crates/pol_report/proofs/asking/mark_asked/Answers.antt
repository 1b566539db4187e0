use Rattle.std.proofs.Common.{◌∙◌, List, is_some, sym, ap}
use Rattle.pol_names.specs.SameService.{same_service}
use Rattle.pol_text.specs.declared.subject.Subject.{Subject}
use Rattle.pol_given.specs.Given.{speaking}
use Rattle.pol_report.proofs.AskingFacts.{silent_change}
use Rattle.pol_report.proofs.asking.mark_asked.Goals as goal

pub returns-clause-asked : goal.returns-clause-asked
returns-clause-asked c = λ service place at none.
    let after = c.mark_for-2.ensures.marked service place at none in
    let before = c.mark_for.ensures.marked service place at after.0 in
    let shell = c.mark.ensures.marked service place at before.0 in
    silent_change c.args.policies.now.before c.args.policies.now.after c.args.user.now service
    (ap (same_service service) (sym c.shell.ensures) ∙ shell.1)
    (ap (λ (policy : List Subject). is_some (speaking policy c.args.user.now service)) (sym c.old_policy.ensures) ∙ before.1)
    (ap (λ (policy : List Subject). is_some (speaking policy c.args.user.now service)) (sym c.new_policy.ensures) ∙ after.1)
