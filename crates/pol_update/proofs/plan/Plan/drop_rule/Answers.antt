use Rattle.std.proofs.Common.{◌≡◌, ◌<◌, Bool, true, false, true≢false, List, [], ◌∷◌, length, Some, refl, sym, ◌∙◌, arith}
use Rattle.pol_text.specs.declared.subject.Rule.{Rule}
use Rattle.pol_text.specs.Policy.{find_subject}
use Rattle.pol_update.proofs.Takes.{drop_turned}
use Rattle.pol_update.proofs.plan.Plan.drop_rule.Goals as goal

pub returns : goal.returns
returns c =
    let found : find_subject c.args.id.now c.args.self.now.made ≡ Some c.in-Some.present.now = sym (rw c.in-Some.is at c.find.ensures.found) in
    drop_turned c.add.result c.args.id.now c.in-Some.present.now c.args.self.now c.add.new.self c.find.ensures.well_formed found (some_rule c.in-Some.present.now.rules c.is_empty.result c.is_empty.ensures.1 c.if-is_empty.false) c.add.ensures.added
  where
    some_rule : (rules : List Rule) (empty : Bool) → (rules ≡ [] → empty ≡ true) → empty ≡ false → 0 < length rules
    some_rule [] empty tells apart = absurd (true≢false (sym (tells refl) ∙ apart))
    some_rule (rule ∷ rules) empty tells apart = omega arith
