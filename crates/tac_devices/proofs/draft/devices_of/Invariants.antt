use Rattle.std.proofs.Common.{◌≡◌}
use Rattle.tac_devices.specs.Text.{devices_of}
use Rattle.tac_devices.proofs.draft.devices_of.Given as goal

-- the devices of the entries so far
abbrev pub invariant-entries : goal.invariant-entries
invariant-entries l = l.devices ≡ devices_of l.yielded
