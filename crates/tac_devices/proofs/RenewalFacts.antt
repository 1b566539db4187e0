-- What is told of a text, and which devices it says, is one thing alone.
use Rattle.std.proofs.Common.{◌≡◌, ℕ, List, Option, Result, refl, ap, ◌∙◌}
use Rattle.std.specs.Result.{result_ok}
use Rattle.tac_devices.specs.declared.device.Device.{Device}
use Rattle.tac_devices.specs.declared.fault.DevicesFault.{DevicesFault}
use Rattle.tac_devices.specs.Text.{IsText}
use Rattle.tac_devices.specs.Renewal.{told, IsRenewal, IsOnlyRenewal}
use Rattle.tac_devices.proofs.ReadingFacts.{text_once}

renewal_once : (text other : List ℕ) (others : Option (List Device)) (read : Result (List Device) DevicesFault) → IsText text read → IsRenewal text other others
    → (other ≡ told read) × (others ≡ result_ok read)
renewal_once text other others read is (again, also, line, devices) =
    let same : again ≡ read = text_once text again read also is in
    (line ∙ ap told same, devices ∙ ap (λ (r : Result (List Device) DevicesFault). result_ok r) same)

pub renewal_only : (text : List ℕ) (read : Result (List Device) DevicesFault) → IsText text read → IsOnlyRenewal text (told read) (result_ok read)
renewal_only text read is =
    record { renewed = (read, is, refl, refl); only = λ other others h. renewal_once text other others read is h }
