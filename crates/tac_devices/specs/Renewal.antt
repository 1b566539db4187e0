-- What comes of a text that is read in place of the devices that there are (docs/DEVICES.md).
use Rattle.std.specs.Prelude.{◌≡◌, ℕ, List, Option, Result, Ok, Err}
use Rattle.std.specs.Result.{result_ok}
use Rattle.tac_devices.specs.Text.{IsText}
use Rattle.tac_devices.specs.Listing.{sizes_of, fault_line}
use Rattle.tac_devices.specs.declared.device.Device.{Device}
use Rattle.tac_devices.specs.declared.fault.DevicesFault.{DevicesFault}

-- what is told of it: how many devices and prefixes it has, or why it is refused
abbrev pub told : Result (List Device) DevicesFault → List ℕ
told (Ok devices) = sizes_of devices
told (Err fault) = fault_line fault

-- the line that is told of a text, and the devices that it says; none where it is refused
abbrev pub IsRenewal : List ℕ → List ℕ → Option (List Device) → Type 0
IsRenewal text line devices =
    (read : Result (List Device) DevicesFault) × IsText text read × (line ≡ told read)
    × (devices ≡ result_ok read)

-- that is so, and nothing else is
pub record IsOnlyRenewal (text line : List ℕ) (devices : Option (List Device)) : Type 0 where
  pub renewed : IsRenewal text line devices
  pub only : (other : List ℕ) (others : Option (List Device)) → IsRenewal text other others
      → (other ≡ line) × (others ≡ devices)
