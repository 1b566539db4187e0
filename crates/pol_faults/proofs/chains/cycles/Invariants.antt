use Rattle.std.proofs.Common.{◌≡◌, take}
use Rattle.pol_faults.specs.Chains as chains
use Rattle.pol_faults.proofs.chains.cycles.Given as goal

abbrev pub invariant-headings : goal.invariant-headings
invariant-headings l = l.remarks ≡ chains.told_of (chains.cycle l.headings) (take l.heading-index l.headings)
