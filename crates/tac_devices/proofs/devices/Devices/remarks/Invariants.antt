use Rattle.std.proofs.Common.{◌≡◌, ◌++◌, take, drop}
use Rattle.tac_devices.specs.Remarks.{remarks_after, remarks_of}
use Rattle.tac_devices.proofs.devices.Devices.remarks.Given as goal

-- the remarks so far, and then those of the rest, are all
abbrev pub invariant-devices : goal.invariant-devices
invariant-devices l =
    l.found ++ remarks_after (take l.place l.self) (drop l.place l.self) ≡ remarks_of l.self
