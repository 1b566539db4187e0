use Rattle.std.proofs.Common.{sym}
use Rattle.pol_live.proofs.PlaceFacts.{found_few}
use Rattle.pol_live.proofs.along.rules_along.Goals as goal

pub rules_from-requires : goal.rules_from-requires
rules_from-requires c = found_few c.args.id.now c.args.policy.now c.in-Some.subject.now c.in-Some.ensures.well_formed.right (sym c.in-Some.ensures.found)

pub returns-in-Some : goal.returns-in-Some
returns-in-Some c = rw (← c.in-Some.ensures.found) c.rules_from.ensures

pub returns-in-None : goal.returns-in-None
returns-in-None c = rw (← c.in-None.ensures.found) c.new.ensures.items
