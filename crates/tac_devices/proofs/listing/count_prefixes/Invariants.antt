use Rattle.std.proofs.Common.{◌≡◌, ◌+◌, length, drop}
use Rattle.tac_devices.specs.Devices.{prefixes_of}
use Rattle.tac_devices.proofs.listing.count_prefixes.Given as goal

-- those so far with those of the rest are all
abbrev pub invariant-devices : goal.invariant-devices
invariant-devices l = l.prefixes + length (prefixes_of (drop l.device-index l.devices)) ≡ length (prefixes_of l.devices)
