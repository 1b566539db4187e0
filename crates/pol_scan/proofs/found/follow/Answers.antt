-- The state after the place is a new one, with the last word, or one that is there.
use Rattle.std.proofs.Common.{arith}
use Rattle.pol_scan.specs.Words.{word_at}
use Rattle.pol_scan.proofs.Lists.{length-zip}
use Rattle.pol_scan.proofs.Finding.{Follows, led_at, advances_new, advances_old}
use Rattle.pol_scan.proofs.found.follow.Given.{Over}
use Rattle.pol_scan.proofs.found.follow.Goals as goal
use Rattle.pol_scan.proofs.found.follow.Goals.{In_ok-at}

pub state-requires : goal.state-requires
state-requires g c = omega (arith, length-zip _ _ _ c.requires.found.led, c.requires.number)

pub step-requires-clause-led : goal.step-requires-clause-led
step-requires-clause-led g c = (
  word_at c.args.found.now.words c.args.number,
  led_at _ _ _ (g.met.M.Machine.tells c.args.machine.now) _ _ c.requires.found c.args.number c.state.result.now c.state.ensures,
)

-- what is known once the set has the state
followed : (g : Over) (c : In_ok-at g) → Follows (g.M.Machine.congruence c.args.machine.now) (g.M.Machine.leads c.args.machine.now)
    (g.M.Machine.congruence c.step.new.self) (g.M.Machine.leads c.step.new.self) g.M.State.PartialEq.eq
    c.args.found.now.words c.args.found.now.states.keys c.insert_full.new.self.keys c.args.number c.args.column c.in_ok-at.at c.in_ok-at.is_new c.state.result.now c.in_ok-next.next
followed g c = record {
  tells = g.met.M.Machine.tells c.step.new.self;
  keeps = g.met.M.Machine.keeps c.args.machine.now c.step.new.self c.in_ok-next.ensures.grows;
  found = c.requires.found;
  after = c.requires.after;
  from = c.requires.number;
  in_range = c.requires.column;
  read = c.state.ensures;
  step = c.in_ok-next.ensures.leads;
  added = c.in_ok-at.ensures.added;
  inserted = c.in_ok-at.ensures.keys;
  stored = c.in_ok-at.ensures.stored;
}

pub returns-in_ok-push-clause-advances : goal.returns-in_ok-push-clause-advances
returns-in_ok-push-clause-advances g c =
    rw c.in_ok-push.ensures.ok (advances_new (followed g (goal.at.returns-in_ok-push-clause-advances g c).In_ok-at) c.if-is_new.true)

pub returns-else-is_new-clause-advances : goal.returns-else-is_new-clause-advances
returns-else-is_new-clause-advances g c =
    advances_old (followed g (goal.at.returns-else-is_new-clause-advances g c).In_ok-at) c.if-is_new.false
