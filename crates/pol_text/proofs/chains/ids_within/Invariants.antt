use Rattle.std.proofs.Common.{◌≡◌, ◌-◌, ◌++◌, map}
use Rattle.pol_text.specs.Policy.{id_of, chain_within}
use Rattle.pol_text.proofs.chains.ids_within.Given as goal

abbrev pub invariant-chain : goal.invariant-chain
invariant-chain l = l.ids ++ map id_of (chain_within (l.most - l.counter) l.subjects l.present) ≡ map id_of (chain_within l.most l.subjects l.fn.subject)
