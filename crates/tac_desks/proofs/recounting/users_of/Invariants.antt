use Rattle.std.proofs.Common.{◌≡◌, take}
use Rattle.tac_desks.specs.Metered.{names}
use Rattle.tac_desks.proofs.recounting.users_of.Given as goal

-- the users of the first changes are there
abbrev pub invariant-loop-change : goal.invariant-loop-change
invariant-loop-change l = l.users ≡ names (take l.change-index l.changes)
