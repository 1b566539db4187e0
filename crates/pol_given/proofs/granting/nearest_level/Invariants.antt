use Rattle.std.proofs.Common.{◌≡◌, ◌-◌}
use Rattle.pol_text.specs.Policy.{chain_within}
use Rattle.pol_given.specs.Granting.{first_levelled}
use Rattle.pol_given.proofs.granting.nearest_level.Given as goal

abbrev pub invariant-chain : goal.invariant-chain
invariant-chain l = first_levelled (chain_within 8 l.policy l.fn.subject) ≡ first_levelled (chain_within (8 - l.counter) l.policy l.present)
