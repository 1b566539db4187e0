use Rattle.std.proofs.Common.{◌≡◌, ◌++◌, ℕ, List, map, filter, take}
use Rattle.pol_meaning.specs.LineChanges.{ChangesOf, is_alone}
use Rattle.pol_report.specs.Sharing.{AreKnown}
use Rattle.pol_report.proofs.changing.list_gone.Given as goal

-- the users among the first subjects come after those that were listed before
abbrev pub invariant-loop-subject : goal.invariant-loop-subject
invariant-loop-subject l = record {
  so_far : (users : List (List ℕ)) → ChangesOf l.policies.before l.policies.after users l.fn.changes
      → ChangesOf l.policies.before l.policies.after (users ++ map (λ subject. subject.name) (filter (is_alone l.policies.after) (take l.subject-index l.policies.before))) l.changes;
  known : AreKnown l.policies.before l.policies.after l.known.by_keepers;
  same : l.subject-items ≡ l.policies.before;
}
