-- What is answered where the devices' file is read again (docs/CONSOLE.md, "Other devices").
use Rattle.std.specs.Prelude.{◌≡◌, ◌⊎◌, ℕ, List, [], ◌∷◌, ◌++◌, length, codes, Result, Ok, Err}
use Rattle.tac_devices.specs.Devices.{prefixes_of}
use Rattle.tac_devices.specs.Listing.{sizes_line, fault_line}
use Rattle.tac_devices.specs.Text.{IsText}
use Rattle.tac_devices.specs.declared.device.Device.{Device}
use Rattle.tac_devices.specs.declared.fault.DevicesFault.{DevicesFault}
use Rattle.tac_hall_console.specs.Shown.{shown}

-- how many devices and prefixes there are, or why the text is refused
abbrev pub line_of_read : Result (List Device) DevicesFault → List ℕ
line_of_read (Ok devices) = sizes_line (length devices) (length (prefixes_of devices))
line_of_read (Err fault) = fault_line fault

-- some text was read, of which this line tells
abbrev pub TellsOfText : List ℕ → Type 0
TellsOfText line =
    (text : List ℕ) × (read : Result (List Device) DevicesFault)
    × IsText text read × (line ≡ line_of_read read)

-- there was no text, for some reason, which this line tells
abbrev pub unread_devices_line : List ℕ → List ℕ
unread_devices_line why = codes "devices unread " ++ shown why ++ 10 ∷ []

-- there is no devices' file
abbrev pub no_devices_line : List ℕ
no_devices_line = codes "no devices" ++ 10 ∷ []

abbrev pub IsDevicesAnswer : List ℕ → Type 0
IsDevicesAnswer line =
    TellsOfText line
    ⊎ ((why : List ℕ) × (line ≡ unread_devices_line why))
    ⊎ (line ≡ no_devices_line)
