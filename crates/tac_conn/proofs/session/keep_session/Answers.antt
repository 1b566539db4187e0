use Rattle.std.proofs.Common.{◌∙◌, ap, List}
use Rattle.std.specs.List.{remove}
use Rattle.tac_conn.specs.declared.session.Session.{Session}
use Rattle.tac_conn.specs.Sessions.{place_in}
use Rattle.tac_conn.proofs.TableFacts.{with_position, with_absent}
use Rattle.tac_conn.proofs.session.keep_session.Goals as goal

pub returns-in-Some-clause-ok : goal.returns-in-Some-clause-ok
returns-in-Some-clause-ok c =
    c.remove.ensures.rest ∙ ap (λ (l : List Session). remove l c.in-Some.place) c.in_ok-push.ensures.ok
    ∙ with_position c.args.session c.args.sessions.now c.in-Some.place (c.in-Some.ensures ∙ ap (λ (l : List Session). place_in l c.args.session.id) c.as_slice.ensures)

pub returns-in_default-clause-ok : goal.returns-in_default-clause-ok
returns-in_default-clause-ok c =
    c.in_ok-push.ensures.ok ∙ with_absent c.args.session c.args.sessions.now (c.in_default.ensures ∙ ap (λ (l : List Session). place_in l c.args.session.id) c.as_slice.ensures)
