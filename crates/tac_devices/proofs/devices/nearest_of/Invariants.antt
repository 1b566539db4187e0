use Rattle.std.proofs.Common.{◌≡◌, drop, map}
use Rattle.std.specs.Option.{option_map}
use Rattle.tac_devices.specs.declared.device.Place.{Place}
use Rattle.tac_devices.specs.Devices.{nearest_from, spot_of, spots_of}
use Rattle.tac_devices.proofs.devices.nearest_of.Given as goal

-- the best so far with the rest is the best of all
abbrev pub invariant-places : goal.invariant-places
invariant-places l =
    nearest_from l.address (option_map spot_of l.nearest) (map (λ (place : Place). (l.device, place)) (drop l.place-index l.device.places))
    ≡ nearest_from l.address (option_map spot_of l.best) (spots_of l.device)
