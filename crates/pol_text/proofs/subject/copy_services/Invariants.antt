use Rattle.std.proofs.Common.{◌≡◌, take}
use Rattle.pol_text.proofs.subject.copy_services.Given as goal

abbrev pub invariant-loop-line : goal.invariant-loop-line
invariant-loop-line l = l.copies ≡ take l.line-index l.services
