use Rattle.std.proofs.Common.{◌≡◌, ℕ, ◌<◌, ◌≤◌, ◌-◌, List, [], length, drop}
use Rattle.pol_pattern.specs.Flat.{class_where}
use Rattle.pol_pattern.specs.Reading.{is_among, items_from}
use Rattle.pol_pattern.proofs.Items.{with_items}
use Rattle.pol_pattern.proofs.lexing.read_class.Given as goal

-- the items that were read so far, and the class of them
abbrev pub invariant-items : goal.invariant-items
invariant-items l = record {
  items : List (ℕ × ℕ);
  named : l.named ≡ class_where (is_among items);
  after : l.start ≤ l.place;
  within : l.place ≤ length l.bytes;
  first : l.place ≡ l.start → items ≡ [];
  later : l.start < l.place → 0 < length items;
  so_far : with_items items (items_from l.place 0 (drop l.place l.bytes)) ≡ items_from l.start 0 (drop l.start l.bytes);
}

abbrev pub decreases-items : goal.decreases-items
decreases-items l = length l.bytes - l.place
