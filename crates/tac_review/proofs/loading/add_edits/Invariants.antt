use Rattle.std.proofs.Common.{◌≡◌, ◌++◌, take}
use Rattle.tac_review.specs.Loading.{edit_lines, AreSpelled}
use Rattle.tac_review.proofs.loading.add_edits.Given as goal

abbrev pub invariant-edits : goal.invariant-edits
invariant-edits l = record {
  added : l.text.items ≡ l.fn.text.items ++ edit_lines (take l.edit-index l.edits);
  spelled : AreSpelled (take l.edit-index l.edits);
}
