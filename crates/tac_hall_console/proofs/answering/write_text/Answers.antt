use Rattle.std.proofs.Common.{sym, take, drop, length-drop, arith}
use Rattle.std.proofs.lemmas.List.{take-append-drop}
use Rattle.tac_hall_console.proofs.answering.write_text.Goals as goal

pub returns-in-Err : goal.returns-in-Err
returns-in-Err g c =
    let sent = c.send-sent.result.0 in
    let all = c.args.text.now in
    let some = rw c.in-Err.is at c.send-sent.ensures.some_left in
    record {
      first = take sent all;
      others = drop sent all;
      parts = sym (take-append-drop sent all);
      some_left = omega (arith, some, length-drop sent all);
      written = c.send-sent.ensures.taken;
    }
