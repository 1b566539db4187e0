use Rattle.std.proofs.Common.{◌≡◌, ◌++◌, take}
use Rattle.tac_review.specs.Lint.{asked_text}
use Rattle.tac_review.proofs.lint_output.write_all_asked.Given as goal

abbrev pub invariant-asked : goal.invariant-asked
invariant-asked l = l.out.items ≡ l.fn.out.items ++ asked_text (take l.question-index l.asked)
