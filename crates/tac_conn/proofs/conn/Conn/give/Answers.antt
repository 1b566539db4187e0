use Rattle.std.proofs.Common.{Some, refl, sym, ap, ◌∙◌}
use Rattle.tac_conn.specs.declared.reply.Reply.{Reply}
use Rattle.tac_conn.specs.Judging.{reply_in}
use Rattle.tac_conn.specs.History.{outcome}
use Rattle.tac_conn.proofs.Laws.{outcome_replies_to, awaited, last_asks, stands_answered}
use Rattle.tac_conn.proofs.conn.Conn.give.Goals as goal

pub returns-clause-reply : goal.returns-clause-reply
returns-clause-reply c = λ packet earlier stands.
    let asked = awaited (outcome earlier packet) c.args.slot c.args.answer (last_asks c.args.self.now packet earlier c.args.slot stands c.requires.pending) in
    let made = c.reply_in.ensures ∙ ap (reply_in c.args.slot) c.answer_body.ensures in
    ap (λ (reply : Reply). Some reply) made ∙ sym asked.0

pub returns-clause-closes : goal.returns-clause-closes
returns-clause-closes c = λ packet earlier stands.
    sym (awaited (outcome earlier packet) c.args.slot c.args.answer (last_asks c.args.self.now packet earlier c.args.slot stands c.requires.pending)).1

pub returns-clause-stands : goal.returns-clause-stands
returns-clause-stands c = λ packets stands. stands_answered c.args.self.now _ packets refl refl refl refl stands

pub returns-clause-header : goal.returns-clause-header
returns-clause-header c = outcome_replies_to
