use Rattle.std.proofs.Common.{◌≡◌, ◌++◌, ℕ, List, map, filter, take}
use Rattle.pol_names.specs.SubjectId.{same_kind}
use Rattle.pol_names.specs.declared.subject_id.Kind.TheVariants.{User}
use Rattle.pol_meaning.specs.LineChanges.{ChangesOf}
use Rattle.pol_report.specs.Sharing.{AreKnown}
use Rattle.pol_report.proofs.changing.list_present.Given as goal

-- the users among the first subjects come after those that were listed before
abbrev pub invariant-loop-subject : goal.invariant-loop-subject
invariant-loop-subject l = record {
  so_far : (users : List (List ℕ)) → ChangesOf l.policies.before l.policies.after users l.fn.changes
      → ChangesOf l.policies.before l.policies.after (users ++ map (λ subject. subject.name) (filter (λ subject. same_kind subject.kind User) (take l.subject-index l.policies.after))) l.changes;
  known : AreKnown l.policies.before l.policies.after l.known.by_keepers;
  same : l.subject-items ≡ l.policies.after;
}
