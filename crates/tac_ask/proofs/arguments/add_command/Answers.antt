use Rattle.std.proofs.Common.{ℕ, List, ◌∷◌, sym, ap, ◌∙◌}
use Rattle.tac_ask.proofs.ArgumentFacts.{shell_added, line_added}
use Rattle.tac_ask.proofs.arguments.add_command.Goals as goal

pub returns-in_default : goal.returns-in_default
returns-in_default c = shell_added c.add-in_default.result c.args.args.now c.add.new.args c.add-in_default.new.args c.args.words.now c.in_default.ensures.cases c.in_ok-add.ensures c.add-in_default.ensures

pub returns : goal.returns
returns c =
    line_added c.add_each.result c.args.args.now c.add.new.args c.add-2.new.args c.add_each.new.args c.args.words.now c.in-Some.rest.now c.as_slice.result.now
    (c.in-Some.ensures.cases.0 ∙ ap (λ (x : List ℕ). x ∷ c.in-Some.rest.now) (sym c.as_slice.ensures)) c.in_ok-add.ensures c.in_ok-add-2.ensures c.add_each.ensures
