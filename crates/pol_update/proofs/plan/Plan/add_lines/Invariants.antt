use Rattle.std.proofs.Common.{take}
use Rattle.std.specs.Option.{option_map}
use Rattle.pol_text.specs.Policy.{find_subject}
use Rattle.pol_update.specs.Planning.{IsTurned, with_services}
use Rattle.pol_update.proofs.plan.Plan.add_lines.Given as goal

abbrev pub invariant-lines : goal.invariant-lines
invariant-lines l = IsTurned l.id (option_map (with_services (take l.line-index l.lines)) (find_subject l.id l.fn.self.made)) l.fn.self l.self
