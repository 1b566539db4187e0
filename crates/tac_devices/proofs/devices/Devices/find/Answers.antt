use Rattle.std.specs.Option.{option_map, option_copied}
use Rattle.tac_devices.specs.Devices.{spot_of}
use Rattle.tac_devices.proofs.OnlyFacts.{device_once}
use Rattle.tac_devices.proofs.devices.Devices.find.Goals as goal

pub returns-clause-only : goal.returns-clause-only
returns-clause-only c = λ table other h.
    device_once c.args.self.now c.args.address.now other (option_copied c.device_at.result) table h
    (option_map spot_of c.spot.result, c.spot.ensures.found, c.device_at.ensures)
