use Rattle.pol_text.proofs.DraftFacts.{lines_fail, lines_go_on, lines_done}
use Rattle.pol_text.proofs.reading.read_lines.Goals as goal

pub lines-preserved : goal.lines-preserved
lines-preserved c =
    lines_go_on c.body_of-version.result.0 c.lines.lines.number c.in-Some.number c.take_line.new.self.number c.lines.lines.lines c.take_line.new.self.lines c.in-Some.line.now c.lines.draft c.add_line.new.draft _
    c.in-Some.ensures.some.0 c.in-Some.ensures.some.1 c.lines.invariant c.in_default-add_line.ensures c.in-Some.ensures.some.2

pub returns-in-Err : goal.returns-in-Err
returns-in-Err c =
    rw c.at_line.ensures (lines_fail c.in-Err.fault c.body_of-version.result.0 c.lines.lines.number c.in-Some.number c.lines.lines.lines c.take_line.new.self.lines c.in-Some.line.now c.lines.draft _
    c.in-Some.ensures.some.0 c.in-Some.ensures.some.1 c.lines.invariant c.in-Err.ensures)

pub returns : goal.returns
returns c = lines_done c.body_of-version.result.0 c.lines.lines.number c.lines.lines.lines c.lines.draft _ c.in_default.ensures.none.0 c.lines.invariant
