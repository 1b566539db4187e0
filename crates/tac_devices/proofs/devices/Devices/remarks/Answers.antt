use Rattle.std.proofs.Common.{rules}
use Rattle.tac_devices.specs.Remarks.{remarks_of}
use Rattle.tac_devices.proofs.RemarkFacts.{remarks_go}
use Rattle.tac_devices.proofs.devices.Devices.remarks.Goals as goal

pub devices-preserved : goal.devices-preserved
devices-preserved c =
    remarks_go c.args.self.now c.devices.place c.index-devices-place.result c.devices.found c.add_of_device.new.found (remarks_of c.args.self.now)
    (search rules) (search rules) (search rules) c.devices.invariant
