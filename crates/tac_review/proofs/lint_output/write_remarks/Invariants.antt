use Rattle.std.proofs.Common.{◌≡◌, ◌++◌, take}
use Rattle.tac_review.specs.Lint.{remarks_text}
use Rattle.tac_review.proofs.lint_output.write_remarks.Given as goal

abbrev pub invariant-remarks : goal.invariant-remarks
invariant-remarks l = l.out.items ≡ l.fn.out.items ++ remarks_text (take l.remark-index l.remarks)
