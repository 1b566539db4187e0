use Rattle.std.proofs.Common.{◌≡◌, ◌++◌, take}
use Rattle.tac_devices.specs.Listing.{remark_lines}
use Rattle.tac_devices.proofs.listing.write_remarks.Given as goal

abbrev pub invariant-remarks : goal.invariant-remarks
invariant-remarks l = l.out.items ≡ l.fn.out.items ++ remark_lines (take l.remark-index l.remarks)
