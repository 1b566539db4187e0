use Rattle.std.proofs.Common.{◌≤◌, length, arith}
use Rattle.std.specs.Fmt.{decimal}
use Rattle.std.proofs.lemmas.Fmt.{length-decimal-le}
use Rattle.tac_request.proofs.arguments.level_argument.Goals as goal

pub unwrap-requires-2 : goal.unwrap-requires-2
unwrap-requires-2 c =
    let few : length (decimal c.args.level) ≤ 3 = length-decimal-le 3 c.args.level (omega arith) (omega arith) (omega arith) in
    grind (arith, few)
