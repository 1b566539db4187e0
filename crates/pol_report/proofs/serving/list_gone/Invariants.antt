use Rattle.std.proofs.Common.{◌≡◌, ◌++◌, drop}
use Rattle.std.specs.Prelude.{flat_map, IfSome}
use Rattle.pol_meaning.specs.LineChanges.{users_alone}
use Rattle.pol_meaning.specs.ServiceChanges.{services_named, service_changes_of}
use Rattle.pol_report.proofs.serving.list_gone.Given as goal

-- what changes for the users who are left is yet to come
abbrev pub invariant-loop-subject : goal.invariant-loop-subject
invariant-loop-subject l = record {
  so : l.changes ++ flat_map (service_changes_of l.policies.before l.policies.after) (users_alone l.policies.after (drop l.subject-index l.policies.before))
      ≡ l.fn.changes ++ flat_map (service_changes_of l.policies.before l.policies.after) (users_alone l.policies.after l.policies.before);
  named : IfSome l.named (λ services. services.keys ≡ services_named l.policies.before l.policies.after);
  same : l.subject-items ≡ l.policies.before;
}
