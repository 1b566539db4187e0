use Rattle.std.proofs.Common.{List, Ok, Err, subst, refl}
use Rattle.tac_devices.specs.declared.device.Device.{Device}
use Rattle.tac_devices.specs.declared.fault.DevicesFault.{DevicesFault}
use Rattle.tac_devices.specs.declared.fault.DevicesFault.TheVariants as faults
use Rattle.tac_devices.specs.declared.listing.ListingEnd.TheVariants.{Refused}
use Rattle.tac_devices.specs.Text.{IsText, UnlessMemory}
use Rattle.tac_devices.proofs.ListingFacts.{listing_only, ok_from}
use Rattle.tac_devices.proofs.listing.list_devices.Goals as goal

pub returns-in-Ok : goal.returns-in-Ok
returns-in-Ok c =
    let read = c.in-Ok.ensures in
    ok_from c.unless_memory.result c.tell.result c.unless_memory.ensures
    (λ output prints. listing_only c.args.asked.now c.args.text.now (Ok c.in-Ok.devices) output.0.items output.1 read.exact read.table prints)
    c.tell.ensures

pub returns-in_ok-told-in-Err-Refused : goal.returns-in_ok-told-in-Err-Refused
returns-in_ok-told-in-Err-Refused c =
    let at = c.in-Err-Refused in
    let said : IsText c.args.text.now (Err (faults.Refused at.line at.refusal)) =
    subst (λ (fault : DevicesFault). UnlessMemory (λ (devices : List Device). devices) (Err fault) (IsText c.args.text.now)) at.field-0-is at.ensures.exact in
    listing_only c.args.asked.now c.args.text.now (Err (faults.Refused at.line at.refusal)) c.in_ok-told-in-Err-Refused.told.items Refused said tt
    (c.in_ok-told-in-Err-Refused.ensures, refl)
