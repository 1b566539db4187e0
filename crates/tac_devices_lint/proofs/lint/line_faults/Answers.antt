use Rattle.tac_devices_lint.specs.Places.{noted}
use Rattle.tac_devices_lint.proofs.PlaceFacts.{taken, all_placed, noted_of_line}
use Rattle.tac_devices_lint.proofs.lint.line_faults.Goals as goal

pub lines-preserved : goal.lines-preserved
lines-preserved c =
    let text = c.args.text.now in
    let number = c.in-Some.number in
    let line = c.in-Some.line.now in
    let told = c.in_ok-told.told in
    let some = c.in-Some.ensures.some in
    let from = taken text c.lines.lines c.take_line.new.self number line c.lines.invariant.0 some.0 some.1 some.2 in
    let inside = noted_of_line number line told c.in_ok-told.ensures in
    (from.1, rw c.in_ok-note-2.ensures (all_placed text number line _ from.0 c.lines.remarks (noted number told) inside c.lines.invariant.1))
