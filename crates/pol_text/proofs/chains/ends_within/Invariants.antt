use Rattle.std.proofs.Common.{◌≡◌, ◌-◌}
use Rattle.pol_text.specs.Policy.{ends_within}
use Rattle.pol_text.proofs.chains.ends_within.Given as goal

abbrev pub invariant-chain : goal.invariant-chain
invariant-chain l = ends_within l.most l.subjects l.fn.subject ≡ ends_within (l.most - l.counter) l.subjects l.present
