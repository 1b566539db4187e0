use Rattle.std.proofs.Common.{◌≡◌, ℕ, None, length}
use Rattle.pol_live.specs.Kept.{slot}
use Rattle.pol_live.proofs.parts.blank.Given as goal

abbrev pub invariant-loop : goal.invariant-loop
invariant-loop l = record {
  many : length l.slots ≡ l.counter;
  none : (k : ℕ) → slot l.slots k ≡ None;
}
