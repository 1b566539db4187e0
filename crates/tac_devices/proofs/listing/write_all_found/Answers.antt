use Rattle.std.proofs.Common.{◌≤◌, length, arith}
use Rattle.tac_devices.proofs.ListingFacts.{found_more, found_all}
use Rattle.tac_devices.proofs.listing.write_all_found.Goals as goal

pub asked-preserved : goal.asked-preserved
asked-preserved c =
    found_more c.args.devices.now c.args.asked.now c.asked.one-index _ c.args.out.now.items c.asked.out.items c.write_found.new.out.items c.asked.all c.is_some-all.result
    c.spot-found.result c.asked-test.true c.spot-found.ensures.found c.is_some-all.ensures c.in_ok-write_found.ensures c.asked.invariant

pub returns : goal.returns
returns c =
    let past : length c.args.asked.now ≤ c.asked.one-index = omega (arith, c.asked-test.false) in
    found_all c.args.devices.now c.args.asked.now c.asked.one-index c.args.out.now.items c.asked.out.items c.asked.all past c.asked.invariant
