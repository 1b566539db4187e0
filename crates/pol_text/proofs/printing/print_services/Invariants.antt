use Rattle.std.proofs.Common.{◌≡◌, ◌++◌, map, take}
use Rattle.pol_names.specs.Service.{line_text}
use Rattle.pol_text.specs.Text.{text_of_lines}
use Rattle.pol_text.proofs.printing.print_services.Given as goal

abbrev pub invariant-lines : goal.invariant-lines
invariant-lines l = l.text ≡ l.fn.text ++ text_of_lines (map line_text (take l.line-index l.lines))
