use Rattle.std.proofs.Common.{take}
use Rattle.pol_update.specs.Update.{AreSteps}
use Rattle.pol_update.proofs.judging.are_right.Given as goal

abbrev pub invariant-edits : goal.invariant-edits
invariant-edits l = AreSteps l.old l.new l.old (take l.edit-index l.edits) l.made
