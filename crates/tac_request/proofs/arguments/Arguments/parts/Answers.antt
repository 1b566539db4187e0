use Rattle.std.proofs.Common.{sym, ap, ◌∙◌, length, List, ℕ, arith, map}
use Rattle.std.specs.List.{concat}
use Rattle.tac_wire.proofs.CutFacts.{cut_laws}
use Rattle.tac_request.proofs.arguments.Arguments.parts.Goals as goal

pub returns-clause-lengths : goal.returns-clause-lengths
returns-clause-lengths c =
    let inv = c.self.invariant in
    c.as_slice.ensures.value
    ∙ sym (cut_laws.lengths c.self.inside.lengths.items c.self.inside.joined.items (omega (arith, inv.0)))
    ∙ ap (λ (l : List (List ℕ)). map length l) c.self.view_is

pub returns-clause-joined : goal.returns-clause-joined
returns-clause-joined c =
    c.as_slice-2.ensures.value
    ∙ sym (cut_laws.joined c.self.inside.lengths.items c.self.inside.joined.items c.self.invariant.0)
    ∙ ap (λ (l : List (List ℕ)). concat l) c.self.view_is

pub returns-clause-short : goal.returns-clause-short
returns-clause-short c =
    omega (arith, c.self.invariant.2, ap (λ (l : List ℕ). length l) c.as_slice.ensures.value, ap (λ (l : List ℕ). length l) c.as_slice-2.ensures.value)
