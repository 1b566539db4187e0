-- How the lint of a devices' file ends: whether the text is refused, and whether anything is
-- remarked on it (docs/DEVICES.md).
use Rattle.std.specs.Prelude.{◌≡◌, ◌≢◌, List, ℕ, [], Result, Ok, Err}
use Rattle.tac_devices.specs.Text.{IsText}
use Rattle.tac_devices.specs.Remarks.{remarks_of}
use Rattle.tac_devices.specs.declared.device.Device.{Device}
use Rattle.tac_devices.specs.declared.fault.DevicesFault.{DevicesFault}
use Rattle.tac_devices_lint.specs.declared.lint.DevicesLintEnd.{DevicesLintEnd}
use Rattle.tac_devices_lint.specs.declared.lint.DevicesLintEnd.TheVariants.{Quiet, Told, Refused}

-- of devices that were read, or of a fault
abbrev pub EndOf : Result (List Device) DevicesFault → DevicesLintEnd → Type 0
EndOf (Ok devices) Quiet = remarks_of devices ≡ []
EndOf (Ok devices) Told = remarks_of devices ≢ []
EndOf (Err fault) Refused = Unit {0}
EndOf _ _ = ⊥

-- of a text
abbrev pub IsEnd : List ℕ → DevicesLintEnd → Type 0
IsEnd text end =
    (read : Result (List Device) DevicesFault) × IsText text read × EndOf read end
