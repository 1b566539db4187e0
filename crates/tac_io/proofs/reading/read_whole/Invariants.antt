use Rattle.std.proofs.Common.{◌≤◌, vec_len}
use Rattle.std.specs.Io.KnownBytes.{Consumes}
use Rattle.tac_io.proofs.reading.read_whole.Given as goal

-- the reader has given the bytes so far, and not too many
abbrev pub invariant-reads : goal.invariant-reads
invariant-reads g l = record {
  given : Consumes (g.R.Read.remaining l.fn.reader) (g.R.Read.remaining l.reader) l.input.items;
  bound : vec_len l.input ≤ l.bound;
}
