use Rattle.std.proofs.Common.{Err, refl, sym}
use Rattle.tac_devices.specs.Listing.{fault_line}
use Rattle.tac_devices.specs.declared.fault.DevicesFault.TheVariants as faults
use Rattle.tac_devices.specs.declared.listing.ListingEnd.TheVariants as ends
use Rattle.tac_start.proofs.devices.devices_of_text.Goals as goal

pub returns-in_ok-printed-in-Err-Refused : goal.returns-in_ok-printed-in-Err-Refused
returns-in_ok-printed-in-Err-Refused c =
    let refused = c.in-Err-Refused in
    let fault = faults.Refused refused.field-0-0 refused.field-0-1 in
    let exact = rw refused.field-0-is at refused.ensures.exact in
    let told = c.in_ok-printed-in-Err-Refused.ensures in
    (fault, exact, sym (told.only (fault_line fault) ends.Refused (Err fault, exact, (refl, refl))).0)
