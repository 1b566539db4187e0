use Rattle.std.proofs.Common.{◌≡◌, ℕ, Bool, ◌&&◌, not, List, ◌++◌, ap, subst, ◌∙◌}
use Rattle.posix_expression.specs.Syntax.{blank}
use Rattle.tac_plus_file.specs.declared.configuration.Rule.{Rule}
use Rattle.tac_plus_import.specs.declared.block.PolicyRule.{PolicyRule}
use Rattle.tac_plus_import.specs.Joining.{AreAdded, AreSoFar, listed, denial}
use Rattle.tac_plus_import.specs.Rules.{Says}
use Rattle.tac_plus_import.proofs.Joined.{written_is}
use Rattle.tac_plus_import.proofs.Adding.{said_added}
use Rattle.tac_plus_import.proofs.draft.Draft.rules_of.Goals.{then-is_decided_below, else-is_decided_below}
use Rattle.tac_plus_import.proofs.draft.Draft.rules_of.Goals as goal

pub returns-clause-said : goal.returns-clause-said
returns-clause-said c =
    let was = c.args.self.now in
    let block = c.args.command.now.rules.items in
    let early = c.in_ok-block.block in
    let late = c.add_rules.new.block in
    let all = c.in_ok-decides_all.decides_all in
    let added : AreAdded was c.add_rules.new.self early late block all =
    subst (λ (r : List Rule). AreAdded was c.add_rules.new.self early late r all) c.deref.ensures.value c.in_ok-decides_all.ensures.added in
    let closes : c.if-is_decided_below.into_rules ≡ (c.args.is_decided_below && not all) =
    elim c.if-is_decided_below.branch [
      | then-is_decided_below w ↦ rw w.if-is_decided_below.true w.into_rules-is
      | else-is_decided_below w ↦ rw w.if-is_decided_below.false (w.into_rules-is ∙ w.if-is_decided_below.false)
    ] in
    let same = c.in_ok-rules.ensures ∙ ap (λ (p : List ℕ). listed late ++ denial c.if-is_decided_below.into_rules p) added.about.1
    ∙ ap (λ (b : Bool). listed late ++ denial b early.any_line) closes in
    subst (λ (n : List ℕ). (rules : List PolicyRule) × Says n block c.args.is_decided_below rules × AreSoFar was c.in_ok-rules.rules.items rules) (c.in_ok-block.ensures.none.0 ∙ c.as_slice.ensures)
    (said_added was c.add_rules.new.self early late block c.args.is_decided_below all c.in_ok-rules.rules.items c.in_ok-block.ensures.none.1
    (written_is early.name blank early.any_line early.any_line_is) added same)
