use Rattle.std.proofs.Common.{sym, ap, ◌∙◌, List, ℕ}
use Rattle.std.proofs.lemmas.Result.{err_from_is_err_and}
use Rattle.tac_server.specs.Command.{event_of}
use Rattle.tac_server.proofs.RunFacts.{run_ended, run_refused, run_stopped, run_goes_on}
use Rattle.tac_server.proofs.events.run_events.Goals as goal

pub returns-in_default-2 : goal.returns-in_default-2
returns-in_default-2 g c = λ state has.
    let p = c.events.invariant state has in
    rw c.at.ensures
    (run_refused g.D.Desk.meaning _ _ _ _ _ _ p c.in-Some.line.now c.take_line.new.self.lines c.in-Some.ensures.some.1 c.in-Some.number c.in-Some.ensures.some.0
    (ap (λ (k : List ℕ). event_of k c.in-Some.line.now) (sym p.has.key ∙ sym c.key.ensures) ∙ sym c.in_ok-event.ensures ∙ c.in_default-2.is))

pub events-preserved : goal.events-preserved
events-preserved g c = λ state has.
    let p = c.events.invariant state has in
    run_goes_on g.D.Desk.meaning _ _ _ _ _ _ p c.in-Some.line.now c.take_line.new.self.lines c.in-Some.ensures.some.1 c.in-Some-2.event c.take_line.new.self.number c.do_event.new.out.items c.do_event.new.self.server
    c.in-Some.ensures.some.2 (ap (λ (k : List ℕ). event_of k c.in-Some.line.now) (sym p.has.key ∙ sym c.key.ensures) ∙ sym c.in_ok-event.ensures ∙ c.in-Some-2.is)
    (c.in_ok-do_event.ensures p.state p.has)

pub returns-in_err-do_event : goal.returns-in_err-do_event
returns-in_err-do_event g c = λ state has.
    let e = err_from_is_err_and c.from_residual-in_err-do_event.result c.from_residual-in_err-do_event.ensures.1 in
    let p = c.events.invariant state has in
    rw (e.1, e.2) (run_stopped g.D.Desk.meaning _ _ _ _ _ _ p c.in-Some.line.now c.take_line.new.self.lines c.in-Some.ensures.some.1 c.in-Some-2.event c.in-Some.number c.do_event.new.out.items c.do_event.new.self.server
    c.in_err-do_event.field-0.0 c.in-Some.ensures.some.0
    (ap (λ (k : List ℕ). event_of k c.in-Some.line.now) (sym p.has.key ∙ sym c.key.ensures) ∙ sym c.in_ok-event.ensures ∙ c.in-Some-2.is)
    (c.in_err-do_event.ensures p.state p.has))

pub returns : goal.returns
returns g c = λ state has. run_ended g.D.Desk.meaning _ _ _ _ _ _ (c.events.invariant state has) c.in_default.ensures.none.0
