use Rattle.std.proofs.Common.{◌≡◌, ◌++◌, drop}
use Rattle.std.specs.Prelude.{flat_map}
use Rattle.pol_meaning.specs.LineChanges.{users_of}
use Rattle.pol_secrets.specs.Altering.{secret_changes_of}
use Rattle.pol_secrets.proofs.altering.list_present.Given as goal

-- what became of the secrets of the users who are left is yet to come
abbrev pub invariant-subjects : goal.invariant-subjects
invariant-subjects l = record {
  so : l.changes ++ flat_map (secret_changes_of l.before l.after) (users_of (drop l.subject-index l.after))
      ≡ l.fn.changes ++ flat_map (secret_changes_of l.before l.after) (users_of l.after);
  same : l.subject-items ≡ l.after;
}
