-- What a sequence is after one of its elements was lent to be changed.
use Rattle.std.specs.Prelude.{ℕ, List, Option, slice_set}
use Rattle.std.specs.Borrow.{LendsIf, Fml, RattleType, MutBor}
use Rattle.basics.specs.contracts.sequence.Sequence.{the_row}

module _ (T : RattleType) where
  -- the place has the last value written through r, and at `None` the sequence stays as it is
  abbrev pub lends_item : MutBor (List T.Denot) → ℕ → Option (MutBor T.Denot) → Fml
  lends_item s at r = LendsIf (the_row T) T s r (slice_set s.now at) s.now
