use Rattle.std.proofs.Common.{◌≡◌, ap, sym, ◌∙◌, List, ℕ}
use Rattle.std.proofs.lemmas.Slice.Eq.{bytes_eq-Decides}
use Rattle.tac_wire.specs.Cut.{cut}
use Rattle.tac_request.proofs.ArgumentsFacts.{same_lengths, same_joined, differ, agree}
use Rattle.tac_request.proofs.arguments.ArgumentsPartialEq.eq.Goals as goal

pub returns-then-eq : goal.returns-then-eq
returns-then-eq c =
    let la = c.self.inside.lengths.items in
    let ja = c.self.inside.joined.items in
    let lb = c.other.inside.lengths.items in
    let jb = c.other.inside.joined.items in
    let lens : la ≡ lb = sym c.as_slice.ensures.value ∙ (bytes_eq-Decides c.as_slice.result.now c.as_slice-2.result.now).0 (sym c.eq.ensures ∙ c.if-eq.true) ∙ c.as_slice-2.ensures.value in
    let rest = bytes_eq-Decides c.as_slice-then-eq.result.now c.as_slice-then-eq-2.result.now in
    agree c.args.self.now c.args.other.now c.eq-then-eq.result
    (λ t. sym c.self.view_is ∙ ap (λ (l : List ℕ). cut l ja) lens
    ∙ ap (cut lb) (sym c.as_slice-then-eq.ensures.value ∙ rest.0 (sym c.eq-then-eq.ensures ∙ t) ∙ c.as_slice-then-eq-2.ensures.value) ∙ c.other.view_is)
    (λ e. c.eq-then-eq.ensures ∙ rest.1 (c.as_slice-then-eq.ensures.value
    ∙ same_joined la ja lb jb c.self.invariant.0 c.other.invariant.0 (c.self.view_is ∙ e ∙ sym c.other.view_is) ∙ sym c.as_slice-then-eq-2.ensures.value))

pub returns-else-eq : goal.returns-else-eq
returns-else-eq c =
    let la = c.self.inside.lengths.items in
    let ja = c.self.inside.joined.items in
    let lb = c.other.inside.lengths.items in
    let jb = c.other.inside.joined.items in
    c.if-eq.false ∙ differ c.args.self.now c.args.other.now (λ e.
    let lens : la ≡ lb = same_lengths la ja lb jb c.self.invariant.0 c.other.invariant.0 (c.self.view_is ∙ e ∙ sym c.other.view_is) in
    let same = (bytes_eq-Decides c.as_slice.result.now c.as_slice-2.result.now).1 (c.as_slice.ensures.value ∙ lens ∙ sym c.as_slice-2.ensures.value) in
    absurd cc)
