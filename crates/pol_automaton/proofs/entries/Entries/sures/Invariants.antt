use Rattle.std.proofs.Common.{◌↔◌, ℕ, IsTrue, take}
use Rattle.std.specs.List.{AllZip}
use Rattle.pol_residual.specs.Residuals.{any_text}
use Rattle.pol_automaton.specs.Scanning.{HasTerm}
use Rattle.pol_automaton.proofs.entries.Entries.sures.Given as goal

abbrev pub invariant-loop-state : goal.invariant-loop-state
invariant-loop-state l =
    AllZip (λ state sure. IsTrue sure ↔ ((entry : ℕ) × HasTerm l.self.terms state.items entry any_text)) (take l.state-index l.states) l.sures.items
