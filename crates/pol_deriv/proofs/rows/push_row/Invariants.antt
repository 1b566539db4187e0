use Rattle.std.proofs.Common.{◌≡◌, ◌+◌, ◌-◌, ◌≤◌, ℕ, List, length, Some, slice_get}
use Rattle.pol_deriv.specs.Forms.{IsRowOf}
use Rattle.pol_deriv.proofs.rows.push_row.Given as goal

abbrev pub invariant-symbols : goal.invariant-symbols
invariant-symbols l = record {
  above : 32 ≤ l.symbol;
  kept : (k : ℕ) (list : List ℕ) → slice_get l.initial.lists k ≡ Some list → slice_get l.lists k ≡ Some list;
  count : length l.lists ≡ l.place + (l.symbol - 32);
  row : IsRowOf l.form l.lists l.place (l.symbol - 32);
}
