use Rattle.std.proofs.Common.{◌≡◌, take}
use Rattle.tac_desks.proofs.records.copy_records.Given as goal

-- the first records are copied
abbrev pub invariant-loop-record : goal.invariant-loop-record
invariant-loop-record l = l.copies ≡ take l.record-index l.records
