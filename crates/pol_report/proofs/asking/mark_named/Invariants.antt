use Rattle.std.proofs.Common.{◌≡◌, length, take}
use Rattle.std.specs.List.{list_any}
use Rattle.pol_given.specs.Given.{is_about}
use Rattle.pol_report.specs.Asking.{AreMarked}
use Rattle.pol_report.proofs.asking.mark_named.Given as goal

-- what the lines so far name is marked
abbrev pub invariant-loop-line : goal.invariant-loop-line
invariant-loop-line l =
    (length l.marks ≡ length l.services.keys)
    × AreMarked l.services.keys (λ other. list_any (is_about other) (take l.line-index l.lines)) l.fn.marks l.marks
