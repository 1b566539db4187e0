use Rattle.std.proofs.Common.{◌≡◌, false, take, drop}
use Rattle.std.specs.List.{list_any}
use Rattle.tac_ask.specs.Bodies.{is_long}
use Rattle.tac_ask.proofs.body.packed.Given as goal

-- the first texts are packed, and none of the others is too long
abbrev pub invariant-loop-text : goal.invariant-loop-text
invariant-loop-text l = (l.args ≡ take l.text-index l.texts) × (list_any is_long (drop l.text-index l.texts) ≡ false)
