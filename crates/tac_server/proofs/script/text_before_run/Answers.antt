use Rattle.std.proofs.Common.{◌+◌, length, sym, ap, ◌∙◌, arith}
use Rattle.tac_server.specs.Script.{before_run}
use Rattle.tac_server.proofs.ScriptFacts.{line_split, line_told, line_count, any_run-line, after_run-line}
use Rattle.tac_server.proofs.script.text_before_run.Goals as goal

pub lines-preserved : goal.lines-preserved
lines-preserved c =
    let inv = c.lines.invariant in
    let old = c.lines.lines in
    let new = c.take_line.new.self in
    let line = c.in-Some.line.now in
    let other = sym c.if-is_run.ensures in
    let split = c.in-Some.ensures.some.1 in
    let text = c.rest-text.result.now in
    let len = ap length split in
    record {
      present = c.rest-rest.ensures;
      split = rw c.rest-rest.ensures (line_split text c.lines.rest.now line old new inv.present inv.split c.in-Some.ensures.text);
      told = rw c.rest-rest.ensures (line_told text c.lines.rest.now line old new inv.present inv.split c.args.lines.now.lines c.in-Some.ensures.text split other inv.told);
      after = sym (after_run-line old.lines new.lines line split other) ∙ inv.after;
      count = line_count old.number new.number (c.args.lines.now.number + length (before_run c.args.lines.now.lines)) old.lines new.lines line split other c.in-Some.ensures.some.2 inv.count;
      all = omega (arith, len, inv.all, c.in-Some.ensures.some.2);
      there = sym (any_run-line old.lines new.lines line split other) ∙ inv.there;
    }
