use Rattle.std.proofs.Common.{◌≡◌, ◌≤◌, length}
use Rattle.pol_scan.specs.Discovery.{SeeksAt}
use Rattle.pol_scan.proofs.searching.seek.Given as goal

abbrev pub invariant-rows : goal.invariant-rows
invariant-rows g l =
    let machine = g.A.Machine in
    record {
      number : l.number ≤ length l.found.words;
      width : l.width ≡ (machine.congruence l.machine).width;
      seeks : SeeksAt (machine.congruence l.machine) (machine.leads l.machine) (g.A.Acceptor.accepted l.machine) l.found.words l.found.states.keys l.number 0;
      grows : machine.grows l.fn.machine l.machine;
    }
