use Rattle.tac_devices_lint.proofs.PlaceFacts.{taken, all_placed}
use Rattle.tac_devices_lint.proofs.doubts.place_doubts.Goals as goal

pub lines-preserved : goal.lines-preserved
lines-preserved c =
    let some = c.in-Some.ensures.some in
    let from = taken c.args.text.now c.lines.lines c.take_line.new.self c.in-Some.number c.in-Some.line.now c.lines.invariant.0 some.0 some.1 some.2 in
    let told = c.in_ok-rest.ensures in
    (from.1, rw told.2 (all_placed c.args.text.now c.in-Some.number c.in-Some.line.now _ from.0 _ told.0 told.1 c.lines.invariant.1))
