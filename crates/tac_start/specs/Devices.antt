-- Which devices a server begins with, by the text of their file (docs/DEVICES.md).
use Rattle.std.specs.Prelude.{◌≡◌, ℕ, List, [], Option, Some, None, Ok, Err}
use Rattle.tac_devices.specs.Listing.{fault_line}
use Rattle.tac_devices.specs.Text.{IsText}
use Rattle.tac_devices.specs.declared.device.Device.{Device}
use Rattle.tac_devices.specs.declared.fault.DevicesFault.{DevicesFault}

-- its devices, and nothing is printed; or there are none, and the line is printed by which a text is
-- refused
abbrev pub HasDevices : List ℕ → List ℕ → Option (List Device) → Type 0
HasDevices text printed (Some devices) = IsText text (Ok devices) × (printed ≡ [])
HasDevices text printed None =
    (fault : DevicesFault) × IsText text (Err fault) × (printed ≡ fault_line fault)
