use Rattle.std.proofs.Common.{◌≡◌, ◌++◌, drop}
use Rattle.posix_expression.specs.Writing.{items_written}
use Rattle.posix_expression.proofs.writing.write_items.Given as goal

abbrev pub invariant-items : goal.invariant-items
invariant-items l = l.out.items ++ items_written (drop l.item-index l.items) ≡ l.fn.out.items ++ items_written l.items
