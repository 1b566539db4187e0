use Rattle.std.proofs.Common.{◌≡◌, ◌+◌, ◌≤◌, length, drop, filter}
use Rattle.tac_hall_console.specs.Users.{is_user}
use Rattle.tac_hall_console.proofs.users.count_users.Given as goal

-- as many as among the first subjects
abbrev pub invariant-subjects : goal.invariant-subjects
invariant-subjects l =
    (l.count + length (filter is_user (drop l.subject-index l.subjects)) ≡ length (filter is_user l.subjects))
    × (l.count ≤ l.subject-index)
