use Rattle.std.proofs.Common.{◌≡◌, ◌≤◌, ◌++◌, length, drop, sum}
use Rattle.tac_wire.specs.Cut.{cut}
use Rattle.tac_wire.proofs.body.cut.Given as goal

-- the fields so far and those of the rest are all fields
abbrev pub invariant-loop-len : goal.invariant-loop-len
invariant-loop-len l = record {
  room : sum (drop l.len-index l.lengths) ≤ length l.rest;
  told : l.fields ++ cut (drop l.len-index l.lengths) l.rest ≡ cut l.lengths l.bytes;
}
