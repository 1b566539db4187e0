use Rattle.std.proofs.Common.{◌≡◌, ◌++◌, take}
use Rattle.std.specs.List.{flat_map}
use Rattle.tac_console.specs.ServiceAnswers.{service_lines}
use Rattle.tac_console.proofs.edit_answer.write_services.Given as goal

-- the lines of the first changes are added
abbrev pub invariant-changes : goal.invariant-changes
invariant-changes l = l.out.items ≡ l.fn.out.items ++ flat_map service_lines (take l.change-index l.changes)
