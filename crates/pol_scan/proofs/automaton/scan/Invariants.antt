use Rattle.std.proofs.Common.{◌≡◌, ◌≤◌, ◌-◌, length}
use Rattle.pol_scan.specs.Discovery.{StandsAt}
use Rattle.pol_scan.proofs.automaton.scan.Given as goal

abbrev pub invariant-rows : goal.invariant-rows
invariant-rows g l =
    let machine = g.M.Machine in
    record {
      number : l.number ≤ length l.found.words;
      width : l.width ≡ (machine.congruence l.machine).width;
      few : length l.found.words ≤ l.limit;
      stands : StandsAt (machine.congruence l.machine) (machine.leads l.machine) l.found.words l.found.states.keys l.cells.items l.number 0;
      grows : machine.grows l.fn.machine l.machine;
    }

abbrev pub decreases-rows : goal.decreases-rows
decreases-rows g l = l.limit - l.number
