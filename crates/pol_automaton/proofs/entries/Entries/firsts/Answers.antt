use Rattle.std.proofs.Common.{subst}
use Rattle.pol_automaton.specs.Entries.{Entries}
use Rattle.pol_automaton.specs.Matching.{IsFirstAccepted}
use Rattle.pol_automaton.proofs.Zips.{zip_more}
use Rattle.pol_automaton.proofs.entries.Entries.firsts.Goals as goal

pub loop-state-preserved : goal.loop-state-preserved
loop-state-preserved c =
    let accepted = rw c.deref.ensures.value at c.first_accepted.ensures in
    let now = subst (λ (e : Entries). IsFirstAccepted e.terms c.state-item.result.items c.first_accepted.result) c.self.view_is accepted in
    rw c.in_ok-push.ensures.items
    (zip_more _ c.args.states.now c.loop-state.firsts.items c.loop-state.state-index c.state-item.result c.first_accepted.result c.loop-state-test.true c.state-item.is c.loop-state.invariant now)
