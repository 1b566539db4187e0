use Rattle.std.proofs.Common.{◌≤◌, subst, arith}
use Rattle.std.specs.Prelude.{Option}
use Rattle.pol_text.specs.Policy.{find_subject}
use Rattle.pol_text.specs.declared.subject.Subject.{Subject}
use Rattle.pol_update.specs.Planning.{IsTurned}
use Rattle.pol_update.proofs.Turns.{not_turned}
use Rattle.pol_update.proofs.Takes.{clear_next, cleared_start, cleared_end}
use Rattle.pol_update.proofs.plan.Plan.clear_services.Goals as goal

pub lines-init : goal.lines-init
lines-init c = not_turned c.args.id.now _ c.args.self.now (cleared_start (find_subject c.args.id.now c.args.self.now.made))

pub lines-preserved : goal.lines-preserved
lines-preserved c = clear_next c.args.id.now c.lines.counter c.args.self.now c.lines.self c.clear_first.new.self c.lines.invariant c.in_ok-clear_first.ensures

pub returns : goal.returns
returns c =
    let all : c.count_services-count.result ≤ c.lines.counter = omega (arith, c.lines-test.false) in
    subst (λ (o : Option Subject). IsTurned c.args.id.now o c.args.self.now c.lines.self)
    (cleared_end c.lines.counter c.count_services-count.result (find_subject c.args.id.now c.args.self.now.made) all c.count_services-count.ensures) c.lines.invariant
