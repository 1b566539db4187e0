use Rattle.std.proofs.Common.{◌≡◌, ◌+◌, Ok, Err, Some, None}
use Rattle.pol_live.specs.declared.judging.TextRefusal.TheVariants.{NoPolicy, TooLarge}
use Rattle.tac_server.specs.Script.{desk_of}
use Rattle.tac_server.specs.Server.{opening}
use Rattle.tac_server.specs.declared.script_fault.Located.{Located}
use Rattle.tac_server.specs.declared.script_fault.ScriptFault.TheVariants.{BadPolicy, TooManyStates}
use Rattle.tac_server.specs.declared.script_fault.Stop.TheVariants as stops
use Rattle.tac_server.proofs.RunFacts.{prints_judged, runs_at_desk, stops_so}
use Rattle.tac_server.proofs.script.run_text.Goals as goal

pub returns-in_ok-desk-in-Ok : goal.returns-in_ok-desk-in-Ok
returns-in_ok-desk-in-Ok g c =
    let at = c.in_ok-live.ensures in
    let desk = c.in_ok-desk-in-Ok in
    let is : desk.desk.meaning ≡ desk_of c.in-Ok.live = rw c.refusing-limit.ensures at desk.ensures.meaning in
    prints_judged c.args.text.now c.args.key c.args.lines.now.number c.args.lines.now.lines c.args.out.now.items c.run_events.new.out.items (Ok c.in-Ok.live)
    (rw c.in-Ok.is at at.found) (rw c.in-Ok.is at at.only) c.run_events.result
    (runs_at_desk c.args.key c.args.lines.now.number c.args.lines.now.lines c.args.out.now.items c.run_events.new.out.items c.in-Ok.live desk.desk.meaning is c.run_events.result
    (c.run_events.ensures (opening c.args.key desk.desk.meaning) c.new.ensures.state))

pub returns-in-Err-NoPolicy : goal.returns-in-Err-NoPolicy
returns-in-Err-NoPolicy g c =
    let at = c.in_ok-live.ensures in
    let case = c.in-Err-NoPolicy in
    let stop : Located = record { line = Some (case.line + 1); fault = BadPolicy case.refusal } in
    rw (c.at.ensures, case.field-0-is)
    (prints_judged c.args.text.now c.args.key c.args.lines.now.number c.args.lines.now.lines c.args.out.now.items c.args.out.now.items (Err (NoPolicy case.line case.refusal))
    (rw (case.is, case.field-0-is) at at.found) (rw (case.is, case.field-0-is) at at.only) (Err (stops.Fault stop)) (stops_so c.args.out.now.items stop))

pub returns-in-Err-TooLarge : goal.returns-in-Err-TooLarge
returns-in-Err-TooLarge g c =
    let at = c.in_ok-live.ensures in
    let case = c.in-Err-TooLarge in
    let stop : Located = record { line = None; fault = TooManyStates case.subject } in
    rw (c.too_large.ensures, case.field-0-is)
    (prints_judged c.args.text.now c.args.key c.args.lines.now.number c.args.lines.now.lines c.args.out.now.items c.args.out.now.items (Err (TooLarge case.subject))
    (rw (case.is, case.field-0-is) at at.found) (rw (case.is, case.field-0-is) at at.only) (Err (stops.Fault stop)) (stops_so c.args.out.now.items stop))
