use Rattle.std.proofs.Common.{sym}
use Rattle.pol_edit.proofs.Missing.{of_first}
use Rattle.pol_edit.proofs.batching.is_first_missing.Goals as goal

pub returns-in-Some-clause-missing : goal.returns-in-Some-clause-missing
returns-in-Some-clause-missing c =
    rw c.is_missing.ensures.missing (of_first c.args.policy.now c.args.edits.now c.in-Some.edit.now (sym c.in-Some.ensures.value))
