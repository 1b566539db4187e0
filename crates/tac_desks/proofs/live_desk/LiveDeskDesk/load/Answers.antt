use Rattle.tac_desks.proofs.live_desk.LiveDeskDesk.load.Goals as goal

pub returns-clause-rises : goal.returns-clause-rises
returns-clause-rises c = rw (← c.self.view_is) c.in_ok-shared.ensures.rises
