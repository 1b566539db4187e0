use Rattle.std.proofs.Common.{◌≡◌, drop}
use Rattle.std.specs.Option.{option_map}
use Rattle.tac_devices.specs.Devices.{nearest_from, nearest, spot_of, spots}
use Rattle.tac_devices.proofs.devices.Devices.nearest.Given as goal

-- the best so far with the rest is the best of all
abbrev pub invariant-devices : goal.invariant-devices
invariant-devices l =
    nearest_from l.address (option_map spot_of l.nearest) (spots (drop l.device-index l.self)) ≡ nearest l.self l.address
