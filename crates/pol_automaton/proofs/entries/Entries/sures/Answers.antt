use Rattle.std.proofs.Common.{◌↔◌, ℕ, IsTrue, subst}
use Rattle.pol_automaton.specs.Entries.{Entries}
use Rattle.pol_automaton.specs.Scanning.{HasTerm}
use Rattle.pol_residual.specs.Residuals.{any_text}
use Rattle.pol_automaton.proofs.Zips.{zip_more}
use Rattle.pol_automaton.proofs.entries.Entries.sures.Goals as goal

pub loop-state-preserved : goal.loop-state-preserved
loop-state-preserved c =
    let accepted = rw c.deref.ensures.value at c.is_sure.ensures in
    let now = subst (λ (e : Entries). IsTrue c.is_sure.result ↔ ((entry : ℕ) × HasTerm e.terms c.state-item.result.items entry any_text)) c.self.view_is accepted in
    rw c.in_ok-push.ensures.items
    (zip_more _ c.args.states.now c.loop-state.sures.items c.loop-state.state-index c.state-item.result c.is_sure.result c.loop-state-test.true c.state-item.is c.loop-state.invariant now)
