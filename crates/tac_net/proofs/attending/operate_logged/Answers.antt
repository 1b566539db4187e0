use Rattle.tac_net.proofs.LogFacts.{operated_so}
use Rattle.tac_net.proofs.attending.operate_logged.Goals as goal

pub returns-then-is_kept : goal.returns-then-is_kept
returns-then-is_kept g c = operated_so c.operate.ensures

pub returns : goal.returns
returns g c = operated_so c.operate-2.ensures
