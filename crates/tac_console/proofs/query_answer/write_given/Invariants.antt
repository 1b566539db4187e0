use Rattle.std.proofs.Common.{◌≡◌, ◌++◌, take}
use Rattle.std.specs.List.{flat_map}
use Rattle.tac_console.specs.Answers.{grant_line, argument_line}
use Rattle.tac_console.proofs.query_answer.write_given.Given as goal

-- the grant's line, and those of the first arguments are added
abbrev pub invariant-arguments : goal.invariant-arguments
invariant-arguments l =
    l.out.items ≡ (l.fn.out.items ++ grant_line l.given.grant) ++ flat_map argument_line (take l.argument-index l.given.arguments)
