use Rattle.std.proofs.Common.{◌≡◌, ◌++◌, take}
use Rattle.std.specs.List.{flat_map}
use Rattle.tac_console.specs.ServiceAnswers.{unless_had}
use Rattle.tac_console.proofs.service_answer.write_without.Given as goal

-- the lines of the first arguments are added
abbrev pub invariant-arguments : goal.invariant-arguments
invariant-arguments l = l.out.items ≡ l.fn.out.items ++ flat_map (unless_had l.change l.what l.others) (take l.argument-index l.arguments)
