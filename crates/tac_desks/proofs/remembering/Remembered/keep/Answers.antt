use Rattle.tac_desks.proofs.Recalled.{kept_right, same_by}
use Rattle.tac_desks.proofs.remembering.Remembered.keep.Goals as goal

pub returns : goal.returns
returns c policy right is =
    kept_right policy _ same_by c.put.result c.args.self.now.kept c.put.new.self c.args.command c.args.decision c.put.ensures.entries c.put.ensures.err right is
