use Rattle.std.proofs.Common.{◌≡◌, ◌≤◌, ◌-◌, ◌++◌, map, length}
use Rattle.pol_text.specs.Policy.{chain_within, entries_along, entries, max_rules}
use Rattle.pol_live.specs.ChainRules.{chain_rule}
use Rattle.pol_live.proofs.along.rules_from.Given as goal

-- what was found, and what is left, are all
abbrev pub invariant-chain : goal.invariant-chain
invariant-chain l = record {
  all : l.rules.items ++ map chain_rule (entries_along (chain_within (8 - l.counter) l.policy l.present)) ≡ map chain_rule (entries l.policy l.fn.subject);
  few : length l.present.rules ≤ max_rules;
}
