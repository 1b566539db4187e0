use Rattle.std.proofs.Common.{◌≡◌, drop}
use Rattle.pol_meaning.specs.ServiceChanges.{with_all_named}
use Rattle.pol_report.proofs.named.add_all_named.Given as goal

abbrev pub invariant-loop-subject : goal.invariant-loop-subject
invariant-loop-subject l = with_all_named l.services.keys (drop l.subject-index l.subjects) ≡ with_all_named l.fn.services.keys l.subjects
