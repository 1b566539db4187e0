use Rattle.std.proofs.Common.{arith}
use Rattle.std.proofs.lemmas.List.Elements.{All-push}
use Rattle.tac_devices_lint.specs.Places.{IsPlaced}
use Rattle.tac_devices_lint.proofs.PlaceFacts.{some_line}
use Rattle.tac_devices_lint.proofs.lint.faults.Goals as goal

pub returns-clause-placed : goal.returns-clause-placed
returns-clause-placed c =
    let text = c.args.text.now in
    rw c.in_ok-push.ensures.ok (All-push (IsPlaced text) _ _ c.in_ok-remarks.ensures ((omega arith, some_line text c.requires), (omega arith, omega arith)))
