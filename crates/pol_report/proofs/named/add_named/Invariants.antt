use Rattle.std.proofs.Common.{◌≡◌, drop}
use Rattle.pol_meaning.specs.ServiceChanges.{with_named}
use Rattle.pol_report.proofs.named.add_named.Given as goal

abbrev pub invariant-loop-line : goal.invariant-loop-line
invariant-loop-line l = with_named l.services.keys (drop l.line-index l.lines) ≡ with_named l.fn.services.keys l.lines
