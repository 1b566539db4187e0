use Rattle.std.proofs.Common.{◌≡◌, ◌<◌, length, get_or, sym}
use Rattle.pol_text.specs.Policy.{id_of}
use Rattle.pol_live.proofs.AlongFacts.{add_step}
use Rattle.pol_live.proofs.along.add_rules.Goals as goal

pub loop-i-preserved : goal.loop-i-preserved
loop-i-preserved c =
    let subject = c.args.subject.now in
    let lt : c.loop-i.i < length subject.rules = rw (← c.as_slice-rule-items.ensures) c.loop-i-test.true in
    let at : get_or subject.rules c.loop-i.i c.rule-item.result ≡ c.rule-item.result = rw (← c.as_slice-rule-items.ensures) (sym c.rule-item.is) in
    add_step (id_of subject) subject.rules c.loop-i.i c.rule-item.result c.args.rules.now.items c.loop-i.rules.items c.push.new.self.items lt at c.loop-i.invariant
    (rw (← c.id.ensures) c.in_ok-push.ensures.items)
