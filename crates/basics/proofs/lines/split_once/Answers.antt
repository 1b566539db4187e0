use Rattle.std.proofs.Common.{◌+◌}
use Rattle.std.proofs.lemmas.List.{take_rest}
use Rattle.basics.proofs.LineFacts.{parts_at, no_parts}
use Rattle.basics.proofs.lines.split_once.Goals as goal

pub returns-in_err-at-clause-parts : goal.returns-in_err-at-clause-parts
returns-in_err-at-clause-parts c =
    rw c.from_residual.ensures (no_parts c.args.separator c.args.bytes.now c.in_err-at.ensures)

pub returns-clause-parts : goal.returns-clause-parts
returns-clause-parts c =
    rw (take_rest c.args.bytes.now (c.in_ok-at.at + 1))
    (parts_at c.args.separator c.args.bytes.now c.in_ok-at.at c.in_ok-at.ensures)
