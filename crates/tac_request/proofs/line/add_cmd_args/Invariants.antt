use Rattle.std.proofs.Common.{◌≡◌, ◌++◌, drop, codes}
use Rattle.std.specs.List.{flat_map}
use Rattle.tac_request.specs.Line.{values_under, spaced}
use Rattle.tac_request.proofs.line.add_cmd_args.Given as goal

-- the words so far and those of the rest are all words
abbrev pub invariant-loop-argument : goal.invariant-loop-argument
invariant-loop-argument l = l.line ++ flat_map spaced (values_under (codes "cmd-arg") (drop l.argument-index l.args)) ≡ l.fn.line ++ flat_map spaced (values_under (codes "cmd-arg") l.args)
