use Rattle.tac_hall_console.proofs.CallFacts.{comes_of, stops_untold, stops_made, stops_refused}
use Rattle.tac_hall_console.proofs.operating.stop.Goals as goal

pub returns-in_err-listened : goal.returns-in_err-listened
returns-in_err-listened g c =
    stops_untold g.J.Run.opening c.args.listened c.from_residual.result c.in_err-listened.field-0.0 c.args.seat.now c.call-stopped.new.seat _ c.in_err-listened.was c.from_residual.ensures.1
    (comes_of g.J.Run.opening c.call-stopped.result c.args.seat.now c.call-stopped.new.seat c.call-stopped.ensures.made c.call-stopped.ensures.err c.call-stopped.ensures.refused)

pub returns-in-Err : goal.returns-in-Err
returns-in-Err g c =
    stops_refused g.J.Run.opening c.args.listened c.write_refused.result c.in_ok-listened.field-0 c.in-Err.fault c.args.seat.now c.call-stopped.new.seat _ _ c.in_ok-listened.was c.in-Err.ensures.err c.in-Err.ensures.refused c.write_refused.ensures

pub returns : goal.returns
returns g c = stops_made g.J.Run.opening c.args.listened c.in_ok-listened.field-0 c.in_default.field-0 c.args.seat.now c.call-stopped.new.seat _ c.in_ok-listened.was c.in_default.ensures.made
