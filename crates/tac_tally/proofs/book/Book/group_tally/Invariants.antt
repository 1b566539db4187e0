use Rattle.std.proofs.Common.{take}
use Rattle.tac_tally.proofs.Groups.{Sums}
use Rattle.tac_tally.proofs.book.Book.group_tally.Given as goal

abbrev pub invariant-subjects : goal.invariant-subjects
invariant-subjects l = Sums l.policy l.group l.self.entries (take l.subject-index l.policy) l.subject-index l.total
