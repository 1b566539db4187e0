use Rattle.std.proofs.Common.{ap, sym, ◌∙◌}
use Rattle.std.specs.List.{zip}
use Rattle.pol_text.specs.Text.{with_right_chains}
use Rattle.pol_text.proofs.RightFacts.{chains_right}
use Rattle.pol_text.proofs.draft.Draft.finish.Goals as goal

pub invariant_of-result : goal.invariant_of-result
invariant_of-result c =
    let told = ap with_right_chains (sym c.self.view_is) ∙ ap (λ l. with_right_chains (zip l c.self.inside.subjects)) (sym c.deref.ensures.value) ∙ c.in_ok-check_chains.ensures in
    (chains_right c.args.self c.self.inside.subjects c.requires told, c.self.invariant.1)
