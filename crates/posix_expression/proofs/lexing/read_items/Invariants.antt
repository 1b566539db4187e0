use Rattle.std.proofs.Common.{◌≡◌, ◌-◌, length}
use Rattle.posix_expression.specs.Reading.{items_within}
use Rattle.posix_expression.proofs.ItemSteps.{before_items}
use Rattle.posix_expression.proofs.lexing.read_items.Given as goal

abbrev pub invariant-items : goal.invariant-items
invariant-items l =
    before_items l.items.items (items_within (length l.text - l._item) l.rest) ≡ items_within (length l.text) l.text
