use Rattle.std.proofs.Common.{◌≡◌, ◌++◌, drop}
use Rattle.std.specs.List.{filter_map}
use Rattle.pol_live.specs.Renewing.{touches, rewrites}
use Rattle.pol_live.proofs.touching.touched_by.Given as goal

-- those of the edits that are left are yet to come
abbrev pub invariant-loop-edit : goal.invariant-loop-edit
invariant-loop-edit l = record {
  all : l.all ++ filter_map touches (drop l.edit-index l.edits) ≡ filter_map touches l.edits;
  rewritten : l.rewritten ++ filter_map rewrites (drop l.edit-index l.edits) ≡ filter_map rewrites l.edits;
}
