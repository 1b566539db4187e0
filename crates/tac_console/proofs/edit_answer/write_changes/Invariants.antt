use Rattle.std.proofs.Common.{◌≡◌, ◌++◌, take}
use Rattle.std.specs.List.{flat_map}
use Rattle.tac_console.specs.Answers.{changed_lines}
use Rattle.tac_console.proofs.edit_answer.write_changes.Given as goal

-- the lines of the first changes are added
abbrev pub invariant-changes : goal.invariant-changes
invariant-changes l = l.out.items ≡ l.fn.out.items ++ flat_map changed_lines (take l.changed-index l.changes)
