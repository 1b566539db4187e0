use Rattle.pol_automaton.specs.Decision.{IsChanged, ruling}
use Rattle.pol_automaton.specs.declared.way.Way.TheVariants.{NowPermitted, NowDenied}
use Rattle.pol_report.proofs.Leasts.{if_any}
use Rattle.pol_report.proofs.difference.Difference.between.Goals as goal

pub returns-clause-permits : goal.returns-clause-permits
returns-clause-permits c before after old new old_are new_are =
    rw (c.line_of.ensures, old_are, new_are) (if_any (IsChanged (ruling before.entries c.args.old_verdicts.now) (ruling after.entries c.args.new_verdicts.now) NowPermitted) (λ line. line.items) c.in_ok-permits.permits
    (c.in_ok-permits.ensures.least before.entries after.entries old new) (c.in_ok-permits.ensures.none before.entries after.entries old new))

pub returns-clause-denies : goal.returns-clause-denies
returns-clause-denies c before after old new old_are new_are =
    rw (c.line_of-2.ensures, old_are, new_are) (if_any (IsChanged (ruling before.entries c.args.old_verdicts.now) (ruling after.entries c.args.new_verdicts.now) NowDenied) (λ line. line.items) c.in_ok-denies.denies
    (c.in_ok-denies.ensures.least before.entries after.entries old new) (c.in_ok-denies.ensures.none before.entries after.entries old new))
