use Rattle.std.proofs.Common.{◌≡◌, ◌++◌, drop}
use Rattle.std.specs.Prelude.{flat_map}
use Rattle.pol_meaning.specs.LineChanges.{users_alone}
use Rattle.pol_secrets.specs.Altering.{secret_changes_of}
use Rattle.pol_secrets.proofs.altering.list_gone.Given as goal

-- what became of the secrets of the users who are left is yet to come
abbrev pub invariant-subjects : goal.invariant-subjects
invariant-subjects l = record {
  so : l.changes ++ flat_map (secret_changes_of l.before l.after) (users_alone l.after (drop l.subject-index l.before))
      ≡ l.fn.changes ++ flat_map (secret_changes_of l.before l.after) (users_alone l.after l.before);
  same : l.subject-items ≡ l.before;
}
