use Rattle.std.proofs.Common.{sym, ap, ◌∙◌, List, ℕ}
use Rattle.tac_wire.specs.Cut.{cut}
use Rattle.tac_request.proofs.ArgumentsFacts.{no_lengths, is_none, none_is}
use Rattle.tac_request.proofs.arguments.Arguments.is_empty.Goals as goal

pub returns : goal.returns
returns c =
    let lens = c.self.inside.lengths.items in (
      λ t. sym c.self.view_is ∙ ap (λ (l : List ℕ). cut l c.self.inside.joined.items) (sym c.as_slice.ensures.value ∙ is_none c.as_slice.result.now c.is_empty.result c.is_empty.ensures t),
      λ e. none_is c.as_slice.result.now c.is_empty.result c.is_empty.ensures (c.as_slice.ensures.value ∙ no_lengths lens c.self.inside.joined.items (c.self.view_is ∙ e)),
    )
