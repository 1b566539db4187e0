use Rattle.std.proofs.Common.{◌≡◌, take, false}
use Rattle.std.specs.List.{list_any}
use Rattle.tac_request.specs.Argument.{is_sign}
use Rattle.tac_request.proofs.argument.split_arg.Given as goal

-- no sign stands before the place
abbrev pub invariant-loop-i : goal.invariant-loop-i
invariant-loop-i l = list_any is_sign (take l.i l.argument) ≡ false
