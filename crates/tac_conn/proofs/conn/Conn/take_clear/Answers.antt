use Rattle.std.proofs.Common.{ap, sym, subst, ◌∷◌, ◌≡◌, ◌∙◌}
use Rattle.std.specs.Prelude.{IfOk}
use Rattle.std.proofs.lemmas.Result.{on_ok_weaker, on_err_weaker, IfOk-weaker}
use Rattle.tac_conn.specs.declared.conn.Conn.{Conn}
use Rattle.tac_conn.specs.declared.outcome.Outcome.{Outcome}
use Rattle.tac_conn.specs.Standing.{step_of, outcome_in, HasItsSlot, Stands}
use Rattle.tac_conn.proofs.StandingFacts.{outcome_in-outcome, is_read_in-after, outcome_in_has_its_slot, stands_next, closed_outcome, stands_closed}
use Rattle.tac_conn.proofs.ReadingFacts.{late_received, open_received}
use Rattle.tac_conn.proofs.conn.Conn.take_clear.Goals as goal

pub returns-then-self-clause-step : goal.returns-then-self-clause-step
returns-then-self-clause-step c = λ earlier stands.
    ap (step_of) (sym (closed_outcome c.args.self.now c.args.packet.now earlier stands c.if-self.true))

pub returns-then-self-clause-stands : goal.returns-then-self-clause-stands
returns-then-self-clause-stands c = λ earlier stands. stands_closed c.args.self.now c.args.packet.now earlier stands c.if-self.true c.requires

pub returns-clause-step : goal.returns-clause-step
returns-clause-step c = λ earlier stands.
    subst (λ (o : Outcome). IfOk c.take_open.result (λ taken. taken.1 ≡ step_of o))
    (outcome_in-outcome c.args.self.now c.args.packet.now earlier stands c.if-self.false) c.take_open.ensures.step

pub returns-then-self-clause-received : goal.returns-then-self-clause-received
returns-then-self-clause-received c = λ earlier stands. c.received_as.ensures ∙ late_received c.args.self.now c.args.packet.now earlier stands c.if-self.true

pub returns-clause-received : goal.returns-clause-received
returns-clause-received c = λ earlier stands.
    open_received c.args.self.now c.args.packet.now earlier stands c.if-self.false c.take_open.result c.take_open.ensures.received c.take_open.ensures.step

pub returns-clause-stands : goal.returns-clause-stands
returns-clause-stands c = λ earlier stands.
    let packet = c.args.packet.now in
    on_ok_weaker c.take_open.result (λ e. subst (λ (conn : Conn). Stands conn (packet ∷ earlier)) (sym e) (stands_next c.args.self.now packet earlier stands c.if-self.false)) c.take_open.ensures.ok

pub returns-clause-kind : goal.returns-clause-kind
returns-clause-kind c =
    let packet = c.args.packet.now in
    IfOk-weaker c.take_open.result (λ taken. taken.1 ≡ step_of (outcome_in c.args.self.now packet)) (λ taken. HasItsSlot taken.1)
    (λ taken e. subst HasItsSlot (sym e) (outcome_in_has_its_slot c.args.self.now packet)) c.take_open.ensures.step

pub returns-clause-memory : goal.returns-clause-memory
returns-clause-memory c = λ earlier stands.
    on_err_weaker c.take_open.result (λ h. is_read_in-after c.args.self.now c.args.packet.now earlier stands c.if-self.false h) c.take_open.ensures.memory
