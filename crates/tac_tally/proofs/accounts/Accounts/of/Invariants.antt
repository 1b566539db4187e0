use Rattle.std.proofs.Common.{take}
use Rattle.tac_tally.specs.Book.{beside}
use Rattle.tac_tally.specs.Accounts.{Run}
use Rattle.tac_tally.proofs.accounts.Accounts.of.Given as goal

-- the accounts are those of the first records
abbrev pub invariant-records : goal.invariant-records
invariant-records l = Run (beside (take l.place l.records) (take l.place l.marks)) l.accounts
