use Rattle.std.proofs.Common.{◌≡◌, ◌-◌, length}
use Rattle.pol_faults.specs.Chains.{comes_to}
use Rattle.pol_faults.proofs.chains.comes_to.Given as goal

-- the steps that are left come to the goal exactly if all do
abbrev pub invariant-steps : goal.invariant-steps
invariant-steps l =
    comes_to (length l.headings) l.headings l.goal l.fn.first ≡ comes_to (length l.headings - l.counter) l.headings l.goal l.parent
