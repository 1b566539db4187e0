use Rattle.std.proofs.Common.{◌≡◌, ◌++◌, map, take}
use Rattle.pol_text.specs.Text.{rule_line, text_of_lines}
use Rattle.pol_text.proofs.printing.print_rules.Given as goal

abbrev pub invariant-rules : goal.invariant-rules
invariant-rules l = l.text ≡ l.fn.text ++ text_of_lines (map rule_line (take l.rule-index l.rules))
