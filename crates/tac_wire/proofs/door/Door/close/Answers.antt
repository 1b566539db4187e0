use Rattle.tac_wire.proofs.DoorFacts.{opened-closed}
use Rattle.tac_wire.proofs.door.Door.close.Goals as goal

pub returns-in-Padded-clause-back : goal.returns-in-Padded-clause-back
returns-in-Padded-clause-back c = opened-closed c.args.self.now c.args.header.now

pub returns-in-Clear-clause-back : goal.returns-in-Clear-clause-back
returns-in-Clear-clause-back c = opened-closed c.args.self.now c.args.header.now
