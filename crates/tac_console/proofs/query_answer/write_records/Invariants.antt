use Rattle.std.proofs.Common.{◌≡◌, ◌++◌, take}
use Rattle.std.specs.List.{flat_map}
use Rattle.tac_console.specs.Answers.{record_line}
use Rattle.tac_console.proofs.query_answer.write_records.Given as goal

-- the lines of the first records are added
abbrev pub invariant-records : goal.invariant-records
invariant-records l = l.out.items ≡ l.fn.out.items ++ flat_map record_line (take l.entry-index l.records)
