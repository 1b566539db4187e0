use Rattle.std.proofs.Common.{◌≡◌, ℕ, ◌+◌, List, [], ◌∷◌, ◌++◌, take, sym, ap, subst, ◌∙◌}
use Rattle.std.proofs.lemmas.List.{take_more}
use Rattle.tac_plus_import.specs.declared.block.PolicyRule.{PolicyRule}
use Rattle.tac_plus_import.specs.Drafts.{Adds}
use Rattle.tac_plus_import.specs.Joining.{of_verdict}
use Rattle.tac_plus_import.proofs.Written.{adds_more}
use Rattle.tac_plus_import.proofs.draft.Draft.push_rules.Goals as goal

pub rules-preserved : goal.rules-preserved
rules-preserved c =
    let rules = c.args.rules.now in
    let at = c.rules.rule-index in
    let rule = c.rule-item.result in
    let more : take (at + 1) rules ≡ take at rules ++ rule ∷ [] =
    take_more rules at rule c.rules-test.true ∙ ap (λ (r : PolicyRule). take at rules ++ r ∷ []) (sym c.rule-item.is) in (
      rw c.push_rule.ensures.remarks c.rules.invariant.0,
      λ whole.
          let next = c.push_rule.ensures.adds whole in
          let one : Adds c.rules.self (rule ∷ []) c.push_rule.new.self =
          subst (λ (p : List ℕ). Adds c.rules.self (of_verdict rule.verdict p ∷ []) c.push_rule.new.self) c.source.ensures.bytes next in
          subst (λ (r : List PolicyRule). Adds c.args.self.now r c.push_rule.new.self) (sym more)
          (adds_more c.args.self.now c.rules.self c.push_rule.new.self (take at rules) rule (c.rules.invariant.1 next.whole) one),
    )
