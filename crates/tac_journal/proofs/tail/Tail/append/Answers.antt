use Rattle.tac_journal.proofs.TailFacts.{part}
use Rattle.tac_journal.proofs.tail.Tail.append.Goals as goal

pub returns-in-Err : goal.returns-in-Err
returns-in-Err g c =
    let ended = rw c.in_ok-end_line.was at c.end_line.ensures in
    let taken = rw c.in-Err.is at c.write_patiently-taken.ensures in
    rw c.in-Err.is (part c.args.self.now.is_cut c.args.lines.now c.write_patiently-taken.result.0 _ _ _ ended.1 taken.0 taken.1)
