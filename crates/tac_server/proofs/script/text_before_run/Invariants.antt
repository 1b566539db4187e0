use Rattle.std.proofs.Common.{◌≡◌, ◌+◌, ◌-◌, ◌++◌, true, length, take}
use Rattle.std.specs.List.{list_any}
use Rattle.pol_text.specs.Text.{text_of_lines}
use Rattle.tac_server.specs.Script.{is_run, before_run, after_run}
use Rattle.tac_server.proofs.script.text_before_run.Given as goal

-- the text so far is that of the lines so far, and the rest is that of the lines to come
abbrev pub invariant-lines : goal.invariant-lines
invariant-lines l = record {
  present : l.rest ≡ l.lines.text;
  split : take (length l.text - length l.rest) l.text ++ l.rest ≡ l.text;
  told : list_any is_run l.lines.lines ≡ true → text_of_lines (before_run l.fn.lines.lines) ≡ take (length l.text - length l.rest) l.text ++ text_of_lines (before_run l.lines.lines);
  after : after_run l.lines.lines ≡ after_run l.fn.lines.lines;
  count : list_any is_run l.lines.lines ≡ true → l.lines.number + length (before_run l.lines.lines) ≡ l.fn.lines.number + length (before_run l.fn.lines.lines);
  all : l.lines.number + length l.lines.lines ≡ l.fn.lines.number + length l.fn.lines.lines;
  there : list_any is_run l.lines.lines ≡ list_any is_run l.fn.lines.lines;
}

abbrev pub decreases-lines : goal.decreases-lines
decreases-lines l = length l.lines.lines
