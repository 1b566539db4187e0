use Rattle.std.proofs.Common.{◌≡◌, ◌≤◌, length}
use Rattle.tac_audit.specs.Masking.{without_blanks}
use Rattle.tac_audit.proofs.masking.without_blanks.Given as goal

abbrev pub invariant-blanks : goal.invariant-blanks
invariant-blanks l = record {
  same : without_blanks l.rest ≡ without_blanks l.text;
  size : length l.rest ≤ length l.text;
}

abbrev pub decreases-blanks : goal.decreases-blanks
decreases-blanks l = length l.rest
