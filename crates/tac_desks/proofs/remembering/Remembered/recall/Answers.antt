use Rattle.std.proofs.Common.{◌∙◌}
use Rattle.tac_desks.proofs.Recalled.{promoted_right, found_right, same_by}
use Rattle.tac_desks.proofs.remembering.Remembered.recall.Goals as goal

pub returns-clause-right : goal.returns-clause-right
returns-clause-right c policy right = rw c.get.follows.holds-at-none (promoted_right policy _ c.args.self.now.kept.entries right)

pub returns-clause-value : goal.returns-clause-value
returns-clause-value c policy right =
    found_right policy _ same_by c.args.self.now.kept.entries right c.args.command.now c.copied.result (c.copied.ensures ∙ c.get.ensures.value)
