use Rattle.tac_hall_console.proofs.StopFacts.{operated}
use Rattle.tac_hall_console.proofs.operating.operate.Goals as goal

pub returns : goal.returns
returns g c = operated g.J.Run.opening _ _ c.stop-end.new.seat _ _ _ c.closed.ensures c.listen-listened.result c.stop-end.result c.listen-listened.ensures c.stop-end.ensures
