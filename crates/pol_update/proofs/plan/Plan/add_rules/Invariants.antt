use Rattle.std.proofs.Common.{take}
use Rattle.std.specs.Option.{option_map}
use Rattle.pol_text.specs.Policy.{find_subject}
use Rattle.pol_update.specs.Planning.{IsTurned, with_rules}
use Rattle.pol_update.proofs.plan.Plan.add_rules.Given as goal

abbrev pub invariant-rules : goal.invariant-rules
invariant-rules l = IsTurned l.id (option_map (with_rules (take l.place l.rules)) (find_subject l.id l.fn.self.made)) l.fn.self l.self
