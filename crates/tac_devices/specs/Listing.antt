-- What is printed of a devices' file, and of addresses that are asked about (docs/DEVICES.md).
use Rattle.std.specs.Prelude.{◌≡◌, ℕ, List, [], ◌∷◌, ◌++◌, length, codes, Bool, true, ◌&&◌, is_some}
use Rattle.std.specs.Prelude.{Option, Some, None, Result, Ok, Err, if◌then◌else◌}
use Rattle.std.specs.List.{flat_map}
use Rattle.std.specs.Fmt.{decimal}
use Rattle.tac_devices.specs.Prefix.{prefix_text}
use Rattle.tac_devices.specs.Devices.{Spot, IsFound, prefixes_of}
use Rattle.tac_devices.specs.Remarks.{remarks_of, remark_text}
use Rattle.tac_devices.specs.FaultText.{fault_text}
use Rattle.tac_devices.specs.Text.{IsText}
use Rattle.tac_devices.specs.declared.device.Device.{Device}
use Rattle.tac_devices.specs.declared.fault.DevicesFault.{DevicesFault}
use Rattle.tac_devices.specs.declared.remark.Remark.{Remark}
use Rattle.tac_devices.specs.declared.listing.Asked.{Asked}
use Rattle.tac_devices.specs.declared.listing.ListingEnd.{ListingEnd}
use Rattle.tac_devices.specs.declared.listing.ListingEnd.TheVariants.{Fine, Stranger, Refused}

-- ---- devices that nothing more is asked about

abbrev pub sizes_line : ℕ → ℕ → List ℕ
sizes_line devices prefixes =
    codes "devices ok: " ++ (decimal devices
    ++ (codes " devices, " ++ (decimal prefixes ++ (codes " prefixes" ++ 10 ∷ []))))

-- how many devices and prefixes there are
abbrev pub sizes_of : List Device → List ℕ
sizes_of devices = sizes_line (length devices) (length (prefixes_of devices))

abbrev pub remark_line : Remark → List ℕ
remark_line remark = remark_text remark ++ 10 ∷ []

abbrev pub remark_lines : List Remark → List ℕ
remark_lines remarks = flat_map remark_line remarks

-- the same, and what is remarked on their keys
abbrev pub devices_text : List Device → List ℕ
devices_text devices = sizes_of devices ++ remark_lines (remarks_of devices)

-- ---- addresses

-- the device of an address, the prefix that decides and its line; or that it has none
abbrev pub found_line : Asked → Option Spot → List ℕ
found_line asked None = asked.word.now ++ codes " may not call" ++ 10 ∷ []
found_line asked (Some spot) =
    asked.word.now ++ codes " " ++ spot.0.name ++ codes " " ++ prefix_text spot.1.prefix
    ++ codes " line " ++ decimal spot.1.line ++ 10 ∷ []

-- a line for each address, in order; and whether all of them may call
abbrev pub Finds : List Device → List Asked → List ℕ → Bool → Type 0
Finds devices [] output all = (output ≡ []) × (all ≡ true)
Finds devices (asked ∷ rest) output all =
    (found : Option Spot) × IsFound devices asked.address found
    × (more : List ℕ) × (others : Bool) × Finds devices rest more others
    × (output ≡ found_line asked found ++ more) × (all ≡ is_some found && others)

-- ---- a text

abbrev pub fault_line : DevicesFault → List ℕ
fault_line fault = codes "devices " ++ fault_text fault ++ 10 ∷ []

-- a text that is refused is told by the line that a fault is; else devices, or addresses
abbrev pub Prints : List Asked → Result (List Device) DevicesFault → List ℕ → ListingEnd → Type 0
Prints asked (Err fault) output end =
    (output ≡ fault_line fault) × (end ≡ Refused)
Prints [] (Ok devices) output end = (output ≡ devices_text devices) × (end ≡ Fine)
Prints (first ∷ rest) (Ok devices) output end =
    (all : Bool) × Finds devices (first ∷ rest) output all
    × (end ≡ if all then Fine else Stranger)

-- what is printed of a devices' text where these addresses are asked about, and how it ends
abbrev pub IsListing : List Asked → List ℕ → List ℕ → ListingEnd → Type 0
IsListing asked text output end =
    (read : Result (List Device) DevicesFault) × IsText text read × Prints asked read output end

-- that is so, and nothing else is
pub record IsOnlyListing (asked : List Asked) (text output : List ℕ) (end : ListingEnd)
    : Type 0 where
  pub printed : IsListing asked text output end
  pub only : (other : List ℕ) (last : ListingEnd) → IsListing asked text other last
      → (other ≡ output) × (last ≡ end)
