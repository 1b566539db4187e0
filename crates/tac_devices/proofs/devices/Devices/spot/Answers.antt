use Rattle.std.specs.Option.{option_map}
use Rattle.tac_devices.specs.Devices.{spot_of}
use Rattle.tac_devices.proofs.OnlyFacts.{found_once}
use Rattle.tac_devices.proofs.devices.Devices.spot.Goals as goal

pub returns-clause-only : goal.returns-clause-only
returns-clause-only c = λ table other h.
    found_once c.args.self.now c.args.address.now other (option_map spot_of c.nearest.result) table h
    (c.to_canonical-canonical.result, c.to_canonical-canonical.ensures, c.nearest.ensures.nearest)
