use Rattle.std.proofs.Common.{◌≡◌, ◌-◌}
use Rattle.std.specs.Prelude.{Contains}
use Rattle.pol_text.specs.Policy.{chain_within}
use Rattle.pol_given.specs.Given.{first_speaking}
use Rattle.pol_given.proofs.deciding.nearest.Given as goal

abbrev pub invariant-chain : goal.invariant-chain
invariant-chain l =
    (first_speaking l.service (chain_within 8 l.policy l.fn.subject) ≡ first_speaking l.service (chain_within (8 - l.counter) l.policy l.present))
    × Contains l.policy l.present
