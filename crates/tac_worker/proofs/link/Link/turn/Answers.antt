use Rattle.std.proofs.Common.{Some, true, sym, ap, ◌∙◌}
use Rattle.tac_worker.specs.Linked.{due_of}
use Rattle.tac_worker.specs.Linking.{connection_of}
use Rattle.tac_worker.specs.Ahead.{seen_by}
use Rattle.tac_worker.proofs.AheadFacts.{kept_bare}
use Rattle.tac_worker.proofs.LinkFacts.{turn_due, as_open, open_still, linked_on, linked_rests, linked_over, turned_at}
use Rattle.tac_worker.proofs.link.Link.turn.Goals as goal

pub invariant_of-self : goal.invariant_of-self
invariant_of-self g c =
    let link = connection_of c.self.inside in
    let due = turn_due _ _ _ (ap due_of c.self.view_is ∙ sym c.due.ensures ∙ c.in-Turn.is) in
    let opened = as_open g.C.Caller.refuses g.V.Witness.takes g.V.Witness.refuses c.self.inside.end link (seen_by c.self.inside.ahead c.self.inside.stream) due.1 c.self.invariant.linked in
    let s = opened.0 in
    let went = rw c.in-Ok-On.is at c.in-Ok-On.field-0-is in
    kept_bare g.C.Caller.refuses g.V.Witness.takes g.V.Witness.refuses _ c.first_turn-turn.ensures.none (λ e. absurd cc)
    (rw c.of.ensures
    (open_still g.C.Caller.refuses g.V.Witness.takes g.V.Witness.refuses _ _ _ due.1
    (linked_on g.C.Caller.makes g.C.Caller.rests g.met.C.Caller.rests_so g.C.Caller.refuses g.V.Witness.takes g.V.Witness.refuses link c.args.caller.now c.serve_turn-went.new.caller c.serve_turn-went.new.called
    c.serve_turn-went.new.witness c.serve_turn-went.new.queue c.serve_turn-went.new.stream (seen_by c.self.inside.ahead c.self.inside.stream) s due.2
    (rw (c.in-Ok-On.is, went) at (c.serve_turn-went.ensures.turned (seen_by c.self.inside.ahead c.self.inside.stream) s.input s.taken c.first_turn-turn.ensures.turn s.ready s.stands)))))

pub invariant_of-self-in-Ok-Rests : goal.invariant_of-self-in-Ok-Rests
invariant_of-self-in-Ok-Rests g c =
    let link = connection_of c.self.inside in
    let due = turn_due _ _ _ (ap due_of c.self.view_is ∙ sym c.due.ensures ∙ c.in-Turn.is) in
    let opened = as_open g.C.Caller.refuses g.V.Witness.takes g.V.Witness.refuses c.self.inside.end link (seen_by c.self.inside.ahead c.self.inside.stream) due.1 c.self.invariant.linked in
    let s = opened.0 in
    let went = rw c.in-Ok-Rests.is at c.in-Ok-Rests.field-0-is in
    kept_bare g.C.Caller.refuses g.V.Witness.takes g.V.Witness.refuses _ c.first_turn-turn.ensures.none (λ e. absurd cc)
    (rw c.of.ensures
    (open_still g.C.Caller.refuses g.V.Witness.takes g.V.Witness.refuses _ _ _ due.1
    (linked_rests g.C.Caller.makes g.C.Caller.rests g.met.C.Caller.rests_so g.C.Caller.refuses g.V.Witness.takes g.V.Witness.refuses link c.args.caller.now c.serve_turn-went.new.caller c.serve_turn-went.new.called
    c.serve_turn-went.new.witness c.serve_turn-went.new.queue c.serve_turn-went.new.stream (seen_by c.self.inside.ahead c.self.inside.stream) s
    (rw (c.in-Ok-Rests.is, went) at (c.serve_turn-went.ensures.turned (seen_by c.self.inside.ahead c.self.inside.stream) s.input s.taken c.first_turn-turn.ensures.turn s.ready s.stands)))))

pub invariant_of-self-in-Err : goal.invariant_of-self-in-Err
invariant_of-self-in-Err g c =
    let link = connection_of c.self.inside in
    let due = turn_due _ _ _ (ap due_of c.self.view_is ∙ sym c.due.ensures ∙ c.in-Turn.is) in
    let opened = as_open g.C.Caller.refuses g.V.Witness.takes g.V.Witness.refuses c.self.inside.end link (seen_by c.self.inside.ahead c.self.inside.stream) due.1 c.self.invariant.linked in
    let s = opened.0 in
    kept_bare g.C.Caller.refuses g.V.Witness.takes g.V.Witness.refuses _ c.first_turn-turn.ensures.none (λ e. absurd cc)
    (rw c.of.ensures
    (linked_over g.C.Caller.makes g.C.Caller.rests g.met.C.Caller.rests_so g.C.Caller.refuses g.V.Witness.takes g.V.Witness.refuses link c.args.caller.now c.serve_turn-went.new.caller c.serve_turn-went.new.called
    c.serve_turn-went.new.witness c.serve_turn-went.new.queue c.serve_turn-went.new.stream (seen_by c.self.inside.ahead c.self.inside.stream) s c.in-Err.end
    (rw c.in-Err.is at (c.serve_turn-went.ensures.turned (seen_by c.self.inside.ahead c.self.inside.stream) s.input s.taken c.first_turn-turn.ensures.turn s.ready s.stands))))

pub returns-in-Ok-On : goal.returns-in-Ok-On
returns-in-Ok-On g c =
    let link = connection_of c.self.inside in
    let is = ap due_of c.self.view_is ∙ sym c.due.ensures ∙ c.in-Turn.is in
    let due = turn_due _ _ _ is in
    let opened = as_open g.C.Caller.refuses g.V.Witness.takes g.V.Witness.refuses c.self.inside.end link (seen_by c.self.inside.ahead c.self.inside.stream) due.1 c.self.invariant.linked in
    let s = opened.0 in
    rw (← c.self.view_is, c.of.ensures)
    (turned_at g.C.Caller.makes g.C.Caller.rests g.met.C.Caller.rests_so g.C.Caller.refuses g.V.Witness.takes g.V.Witness.refuses link c.args.caller.now c.serve_turn-went.new.caller c.serve_turn-went.new.called
    c.serve_turn-went.new.witness c.serve_turn-went.new.queue c.serve_turn-went.new.stream _ is c.self.inside.rests c.self.inside.end c.serve_turn-went.result s.input s.taken
    (c.serve_turn-went.ensures.turned (seen_by c.self.inside.ahead c.self.inside.stream) s.input s.taken c.first_turn-turn.ensures.turn s.ready s.stands) c.serve_turn-went.ensures.one)

pub returns-in-Ok-Rests : goal.returns-in-Ok-Rests
returns-in-Ok-Rests g c =
    let link = connection_of c.self.inside in
    let is = ap due_of c.self.view_is ∙ sym c.due.ensures ∙ c.in-Turn.is in
    let due = turn_due _ _ _ is in
    let opened = as_open g.C.Caller.refuses g.V.Witness.takes g.V.Witness.refuses c.self.inside.end link (seen_by c.self.inside.ahead c.self.inside.stream) due.1 c.self.invariant.linked in
    let s = opened.0 in
    rw (← c.self.view_is, c.of.ensures)
    (turned_at g.C.Caller.makes g.C.Caller.rests g.met.C.Caller.rests_so g.C.Caller.refuses g.V.Witness.takes g.V.Witness.refuses link c.args.caller.now c.serve_turn-went.new.caller c.serve_turn-went.new.called
    c.serve_turn-went.new.witness c.serve_turn-went.new.queue c.serve_turn-went.new.stream _ is true c.self.inside.end c.serve_turn-went.result s.input s.taken
    (c.serve_turn-went.ensures.turned (seen_by c.self.inside.ahead c.self.inside.stream) s.input s.taken c.first_turn-turn.ensures.turn s.ready s.stands) c.serve_turn-went.ensures.one)

pub returns-in-Err : goal.returns-in-Err
returns-in-Err g c =
    let link = connection_of c.self.inside in
    let is = ap due_of c.self.view_is ∙ sym c.due.ensures ∙ c.in-Turn.is in
    let due = turn_due _ _ _ is in
    let opened = as_open g.C.Caller.refuses g.V.Witness.takes g.V.Witness.refuses c.self.inside.end link (seen_by c.self.inside.ahead c.self.inside.stream) due.1 c.self.invariant.linked in
    let s = opened.0 in
    rw (← c.self.view_is, c.of.ensures)
    (turned_at g.C.Caller.makes g.C.Caller.rests g.met.C.Caller.rests_so g.C.Caller.refuses g.V.Witness.takes g.V.Witness.refuses link c.args.caller.now c.serve_turn-went.new.caller c.serve_turn-went.new.called
    c.serve_turn-went.new.witness c.serve_turn-went.new.queue c.serve_turn-went.new.stream _ is c.self.inside.rests (Some c.in-Err.end) c.serve_turn-went.result s.input s.taken
    (c.serve_turn-went.ensures.turned (seen_by c.self.inside.ahead c.self.inside.stream) s.input s.taken c.first_turn-turn.ensures.turn s.ready s.stands) c.serve_turn-went.ensures.one)
