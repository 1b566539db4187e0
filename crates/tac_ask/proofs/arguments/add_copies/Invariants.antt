use Rattle.std.proofs.Common.{◌≡◌, ◌++◌, drop}
use Rattle.tac_ask.proofs.arguments.add_copies.Given as goal

-- the copies so far and the rest are all
abbrev pub invariant-loop-text : goal.invariant-loop-text
invariant-loop-text l = l.args ++ drop l.text-index l.texts ≡ l.fn.args ++ l.texts
