use Rattle.std.proofs.Common.{◌≡◌, ◌++◌, take}
use Rattle.std.specs.List.{flat_map}
use Rattle.tac_ask.specs.Answer.{shown_argument}
use Rattle.tac_ask.proofs.answer.add_arguments.Given as goal

-- the first arguments are added
abbrev pub invariant-arguments : goal.invariant-arguments
invariant-arguments l = l.out.items ≡ l.fn.out.items ++ flat_map shown_argument (take l.argument-index l.arguments)
