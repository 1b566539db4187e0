use Rattle.std.proofs.Common.{Ok, Err, map, ◌∙◌}
use Rattle.std.proofs.lemmas.List.{length-map}
use Rattle.std.proofs.lemmas.List.Elements.{All-map}
use Rattle.std.proofs.lemmas.Result.{err_from_is_err_and}
use Rattle.tac_hall.specs.Seat.{IsFresh}
use Rattle.tac_net.proofs.RunFacts.{ran, ran_out}
use Rattle.tac_net.proofs.program.serve_run.Goals as goal
use Rattle.tac_net.proofs.program.serve_run.Goals.{in-Ok-served, in-Err-served}

pub returns-in_err-operated : goal.returns-in_err-operated
returns-in_err-operated g c =
    let p = err_from_is_err_and c.from_residual-in_err-operated.result c.from_residual-in_err-operated.ensures.1 in
    let both = c.serve_both-served in
    let attended = rw c.in_err-operated.was at (rw c.in-Ok-attended.is at both.ensures.attended) in
    let ended = c.in-Ok-attended.ended in
    elim c.match-served-2.branch [
      | in-Ok-served w ↦ rw (p.1, p.2, w.output-is)
          (ran c.args.settings.now (g.L.Log.keeping c.args.files.now.log.now) g.J.Run.opening (map (λ place. place.seat) c.in-Ok-places_of.places.items) c.in-Ok.console ended.0 (Err c.in_err-operated.field-0.0)
          _ _ _ _ _ w.in-Ok-served.served.items w.close-closed.result attended c.in-Ok.ensures.fresh (length-map c.in-Ok-places_of.places.items (λ place. place.seat) ∙ c.in-Ok-places_of.ensures.count ∙ c.in_ok-intake.ensures.count) (All-map IsFresh (λ place. place.seat) c.in-Ok-places_of.places.items c.in-Ok-places_of.ensures.fresh)
          (rw w.in-Ok-served.is at both.ensures.served) w.close-closed.ensures)
      | in-Err-served w ↦ rw (p.1, p.2, w.output-is)
          (ran_out c.args.settings.now (g.L.Log.keeping c.args.files.now.log.now) g.J.Run.opening c.in-Ok.console ended.0 (Err c.in_err-operated.field-0.0) _ _ _ _ attended c.in-Ok.ensures.fresh)
    ]

pub returns : goal.returns
returns g c =
    let both = c.serve_both-served in
    let attended = rw c.in_ok-operated.was at (rw c.in-Ok-attended.is at both.ensures.attended) in
    let ended = c.in-Ok-attended.ended in
    elim c.match-served-2.branch [
      | in-Ok-served w ↦ rw (w.closed-is, w.output-is)
          (ran c.args.settings.now (g.L.Log.keeping c.args.files.now.log.now) g.J.Run.opening (map (λ place. place.seat) c.in-Ok-places_of.places.items) c.in-Ok.console ended.0 (Ok c.in_ok-operated.field-0)
          _ _ _ _ _ w.in-Ok-served.served.items w.close-closed.result attended c.in-Ok.ensures.fresh (length-map c.in-Ok-places_of.places.items (λ place. place.seat) ∙ c.in-Ok-places_of.ensures.count ∙ c.in_ok-intake.ensures.count) (All-map IsFresh (λ place. place.seat) c.in-Ok-places_of.places.items c.in-Ok-places_of.ensures.fresh)
          (rw w.in-Ok-served.is at both.ensures.served) w.close-closed.ensures)
      | in-Err-served w ↦ rw (w.closed-is, w.output-is)
          (ran_out c.args.settings.now (g.L.Log.keeping c.args.files.now.log.now) g.J.Run.opening c.in-Ok.console ended.0 (Ok c.in_ok-operated.field-0) _ _ _ _ attended c.in-Ok.ensures.fresh)
    ]
