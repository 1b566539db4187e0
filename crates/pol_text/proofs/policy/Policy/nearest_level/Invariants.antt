use Rattle.std.proofs.Common.{◌≡◌, ◌-◌}
use Rattle.pol_text.specs.Policy.{chain_within, first_level}
use Rattle.pol_text.proofs.policy.Policy.nearest_level.Given as goal

abbrev pub invariant-chain : goal.invariant-chain
invariant-chain l = first_level (chain_within 8 l.self l.fn.subject) ≡ first_level (chain_within (8 - l.counter) l.self l.present)
