use Rattle.std.proofs.Common.{◌∙◌, ap, List}
use Rattle.tac_conn.specs.declared.session.Session.{Session}
use Rattle.tac_conn.specs.Sessions.{place_in}
use Rattle.tac_conn.proofs.TableFacts.{remove-position, without_absent}
use Rattle.tac_conn.proofs.session.remove_session.Goals as goal

pub returns-in-Some : goal.returns-in-Some
returns-in-Some c =
    c.remove.ensures.rest ∙ remove-position c.args.id c.args.sessions.now c.in-Some.place (c.in-Some.ensures ∙ ap (λ (l : List Session). place_in l c.args.id) c.as_slice.ensures)

pub returns-in_default : goal.returns-in_default
returns-in_default c = without_absent c.args.id c.args.sessions.now (c.in_default.ensures ∙ ap (λ (l : List Session). place_in l c.args.id) c.as_slice.ensures)
