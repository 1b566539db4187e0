use Rattle.std.proofs.Common.{◌≡◌, ◌-◌}
use Rattle.pol_text.specs.Policy.{chain_within}
use Rattle.pol_given.specs.Saying.{said_along}
use Rattle.pol_given.proofs.comparing.alike_along.Given as goal

-- the chains are alike if what is left of them is
abbrev pub invariant-chain : goal.invariant-chain
invariant-chain l =
    said_along (chain_within (8 - l.counter) l.old l.was) ≡ said_along (chain_within (8 - l.counter) l.new l.is)
    → said_along (chain_within 8 l.old l.fn.one) ≡ said_along (chain_within 8 l.new l.fn.two)
