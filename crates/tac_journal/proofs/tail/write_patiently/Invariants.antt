use Rattle.std.proofs.Common.{◌≤◌, ◌<◌, length, take}
use Rattle.std.specs.Io.KnownBytes.{Appends}
use Rattle.tac_journal.proofs.tail.write_patiently.Given as goal

-- the file has taken the first bytes, and not all of them
abbrev pub invariant-pauses : goal.invariant-pauses
invariant-pauses g l = record {
  within : l.taken ≤ length l.bytes;
  some_left : 0 < length l.bytes → l.taken < length l.bytes;
  first : Appends (g.F.Write.contents l.fn.file) (g.F.Write.contents l.file) (take l.taken l.bytes);
}
