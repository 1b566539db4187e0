use Rattle.std.proofs.Common.{List, ℕ, Some, None, Ok, Err, subst, sym}
use Rattle.tac_devices.specs.declared.device.Device.{Device}
use Rattle.tac_devices.specs.declared.fault.DevicesFault.{DevicesFault}
use Rattle.tac_devices.specs.declared.fault.DevicesFault.TheVariants as faults
use Rattle.tac_devices.specs.Text.{IsText, UnlessMemory}
use Rattle.tac_devices.specs.Renewal.{IsOnlyRenewal}
use Rattle.tac_devices.proofs.RenewalFacts.{renewal_only}
use Rattle.tac_devices.proofs.renewal.renew_devices.Goals as goal

pub returns-in_ok-line-in-Ok-clause-exact : goal.returns-in_ok-line-in-Ok-clause-exact
returns-in_ok-line-in-Ok-clause-exact c =
    subst (λ (line : List ℕ). IsOnlyRenewal c.args.text.now line (Some c.in-Ok.devices)) (sym c.in_ok-line-in-Ok.ensures)
    (renewal_only c.args.text.now (Ok c.in-Ok.devices) c.in-Ok.ensures.exact)

pub returns-in_ok-told-in-Err-Refused-clause-exact : goal.returns-in_ok-told-in-Err-Refused-clause-exact
returns-in_ok-told-in-Err-Refused-clause-exact c =
    let at = c.in-Err-Refused in
    let said : IsText c.args.text.now (Err (faults.Refused at.line at.refusal)) =
    subst (λ (fault : DevicesFault). UnlessMemory (λ (devices : List Device). devices) (Err fault) (IsText c.args.text.now)) at.field-0-is at.ensures.exact in
    subst (λ (line : List ℕ). IsOnlyRenewal c.args.text.now line None) (sym c.in_ok-told-in-Err-Refused.ensures)
    (renewal_only c.args.text.now (Err (faults.Refused at.line at.refusal)) said)
