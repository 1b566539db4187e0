use Rattle.std.proofs.Common.{Err, ap}
use Rattle.tac_hall_console.proofs.AnswerFacts.{answers_sent, answers_untold}
use Rattle.tac_hall_console.proofs.operator.Operator.answer.Goals as goal

pub returns-in-Ok-clause-answers : goal.returns-in-Ok-clause-answers
returns-in-Ok-clause-answers g c =
    answers_sent g.J.Run.opening c.args.self.now.begun.items _ _ c.write_text.result c.in-Ok.text.items
    (rw (c.tell-answer.ensures.console, ← c.as_slice-line.ensures.value) c.in-Ok.ensures.ok) (rw (c.tell-answer.ensures.console, ← c.as_slice-line.ensures.value) c.in-Ok.ensures.batch)
    c.tell-answer.ensures.heard (rw (c.as_slice.ensures, c.tell-answer.ensures.answer) at c.write_text.ensures)

pub returns-in-Err-clause-answers : goal.returns-in-Err-clause-answers
returns-in-Err-clause-answers g c =
    answers_untold g.J.Run.opening (Err c.from.result) c.args.self.now.begun.items _ c.tell.new.self.console c.tell.new.witness (ap Err c.from.ensures)
    (rw c.new.ensures.items at c.tell.ensures.heard) (rw (c.tell.ensures.console, ← c.as_slice-line.ensures.value) c.in-Err.ensures.err)
