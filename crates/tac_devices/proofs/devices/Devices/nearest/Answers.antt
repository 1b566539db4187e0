use Rattle.std.proofs.Common.{rules, ◌≤◌, length, arith}
use Rattle.std.specs.Option.{option_map}
use Rattle.tac_devices.specs.Devices.{spot_of, nearest}
use Rattle.tac_devices.proofs.NearFacts.{near_goes, near_done, nearest_is}
use Rattle.tac_devices.proofs.devices.Devices.nearest.Goals as goal

pub devices-preserved : goal.devices-preserved
devices-preserved c =
    near_goes c.args.address.now (option_map spot_of c.devices.nearest) (option_map spot_of c.nearest_of-nearest.result) (nearest c.args.self.now c.args.address.now)
    c.as_slice-device-items.result.now c.args.self.now c.devices.device-index c.device-item.result (search rules) c.devices-test.true c.device-item.is c.nearest_of-nearest.ensures c.devices.invariant

pub returns-clause-nearest : goal.returns-clause-nearest
returns-clause-nearest c =
    let past : length c.as_slice-device-items.result.now ≤ c.devices.device-index = omega (arith, c.devices-test.false) in
    nearest_is c.args.self.now c.args.address.now (option_map spot_of c.devices.nearest)
    (near_done c.args.address.now (option_map spot_of c.devices.nearest) (nearest c.args.self.now c.args.address.now)
    c.as_slice-device-items.result.now c.args.self.now c.devices.device-index (search rules) past c.devices.invariant)
