use Rattle.std.proofs.Common.{◌≡◌, ◌++◌, map, drop}
use Rattle.tac_ask.proofs.arguments.add_each.Given as goal

-- the arguments so far and those of the rest are all
abbrev pub invariant-loop-value : goal.invariant-loop-value
invariant-loop-value l = l.args ++ map (λ it. l.name ++ it) (drop l.value-index l.values) ≡ l.fn.args ++ map (λ it. l.name ++ it) l.values
