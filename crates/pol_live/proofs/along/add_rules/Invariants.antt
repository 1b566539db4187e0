use Rattle.std.proofs.Common.{◌≡◌, ◌++◌, map, take}
use Rattle.pol_text.specs.Policy.{id_of, numbered}
use Rattle.pol_live.specs.ChainRules.{chain_rule}
use Rattle.pol_live.proofs.along.add_rules.Given as goal

abbrev pub invariant-loop-i : goal.invariant-loop-i
invariant-loop-i l = l.rules.items ≡ l.fn.rules.items ++ map chain_rule (numbered (id_of l.subject) 1 (take l.i l.subject.rules))
