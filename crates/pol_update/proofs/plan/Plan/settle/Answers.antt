use Rattle.pol_update.proofs.Takes.{settled}
use Rattle.pol_update.proofs.plan.Plan.settle.Goals as goal

pub returns : goal.returns
returns c =
    settled c.add_rules.result c.args.subject.now c.args.self.now c.put_below.new.self c.put_secrets.new.self c.put_level.new.self c.clear_services.new.self c.add_lines.new.self c.drop_rules.new.self c.add_rules.new.self c.requires.there
    (rw c.id-id.ensures at c.in_ok-put_below.ensures) c.in_ok-put_secrets.ensures (rw c.id-id.ensures at c.in_ok-put_level.ensures)
    (rw c.id-id.ensures at c.in_ok-clear_services.ensures) (rw (c.id-id.ensures, c.as_slice.ensures) at c.in_ok-add_lines.ensures) (rw c.id-id.ensures at c.in_ok-drop_rules.ensures)
    (rw (c.id-id.ensures, c.as_slice-2.ensures) at c.add_rules.ensures)
