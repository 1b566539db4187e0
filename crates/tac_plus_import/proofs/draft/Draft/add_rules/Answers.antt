use Rattle.std.proofs.Common.{rules, ◌≡◌, ℕ, ◌+◌, true, nat_lt, length, List, [], ◌∷◌, ◌++◌, drop, sym, ap, subst, ◌∙◌}
use Rattle.pol_names.specs.declared.decision.Verdict.TheVariants.{Permit, Deny}
use Rattle.posix_expression.specs.Finding.{Finds}
use Rattle.posix_expression.specs.Syntax.{Expression, blank}
use Rattle.tac_plus_file.specs.declared.configuration.Rule.{Rule}
use Rattle.tac_plus_import.specs.declared.block.Block.{Block}
use Rattle.tac_plus_import.specs.declared.draft.Draft.{Draft}
use Rattle.tac_plus_import.specs.Blocks.{said}
use Rattle.tac_plus_import.specs.Drafts.{Keeps, Tells}
use Rattle.tac_plus_import.specs.Joining.{DecideAlike, listed, is_over, of_verdict, IsAbout}
use Rattle.tac_plus_import.proofs.Joined.{written_is}
use Rattle.tac_plus_import.proofs.Adding.{Taking, front_is, the_said, at_some, tells_more, keeps_more, not_deny, unless_out, taking_said, taking_permit, added_over, added_all, added_deny}
use Rattle.tac_plus_import.proofs.draft.Draft.add_rules.Goals.{in-Ok-false, in-Err+else-ran_out+else-eq}
use Rattle.tac_plus_import.proofs.draft.Draft.add_rules.Goals as goal

pub returns-then-has_more_than-clause-added : goal.returns-then-has_more_than-clause-added
returns-then-has_more_than-clause-added c =
    let late = c.rules.block in
    let over : is_over c.args.self.now late.rules.items ≡ true =
    ap (λ (n : ℕ). nat_lt n (length late.rules.items)) (sym c.room_for_rules-room.ensures) ∙ sym c.has_more_than.ensures ∙ c.if-has_more_than.true in
    added_over c.args.self.now c.rules.self c.args.block.now late (drop c.rules.rule-index c.args.rules.now) c.args.rules.now c.rules.invariant over

pub returns-in-Ok-true-clause-added : goal.returns-in-Ok-true-clause-added
returns-in-Ok-true-clause-added c =
    let was = c.args.self.now in
    let now = c.rules.self in
    let early = c.args.block.now in
    let mid = c.rules.block in
    let late = c.add.new.self in
    let whole = c.args.rules.now in
    let rule = c.rule-item.result in
    let rest = drop (c.rules.rule-index + 1) whole in
    let so : Taking was now early mid (rule ∷ rest) whole =
    subst (λ (r : List Rule). Taking was now early mid r whole) (front_is whole c.rules.rule-index rule c.rules-test.true c.rule-item.is) c.rules.invariant in
    let there = the_said (said mid.name rule.expression) c.in-Ok-true.ensures.is_said in
    let step = at_some (said mid.name rule.expression) (λ (f : Expression × List ℕ). DecideAlike (listed late) (listed mid ++ of_verdict rule.verdict f.1 ∷ [])) there.0 there.1 c.in-Ok-true.ensures.alike in
    let finds = at_some (said mid.name rule.expression) (λ (f : Expression × List ℕ). (arguments : List ℕ) → Finds f.0 arguments) there.0 there.1 (c.in-Ok-true.ensures.all c.in-Ok-true.field-0-test) in
    added_all was now c.tell_older.new.self early mid late rule rest whole there.0 so c.tell_older.ensures c.in-Ok-true.ensures.about there.1 (written_is early.name blank early.any_line early.any_line_is) step finds

pub returns-then-eq : goal.returns-then-eq
returns-then-eq c =
    let was = c.args.self.now in
    let now = c.rules.self in
    let early = c.args.block.now in
    let mid = c.rules.block in
    let late = c.deny_rest.new.self in
    let whole = c.args.rules.now in
    let rule = c.rule-item.result in
    let rest = drop (c.rules.rule-index + 1) whole in
    let so : Taking was now early mid (rule ∷ rest) whole =
    subst (λ (r : List Rule). Taking was now early mid r whole) (front_is whole c.rules.rule-index rule c.rules-test.true c.rule-item.is) c.rules.invariant in
    let known = unless_out (said mid.name rule.expression) mid c.add.new.self c.in-Err.why (sym c.ran_out.ensures ∙ c.if-ran_out.false) c.in-Err.ensures.unsaid in
    let denies : rule.verdict ≡ Deny = search rules in
    let about : IsAbout mid late = subst (λ (b : Block). IsAbout b late) known.1 c.deny_rest.ensures.about in
    let ends : listed late ≡ listed mid ++ of_verdict Deny mid.any_line ∷ [] = subst (λ (b : Block). listed late ≡ listed b ++ of_verdict Deny b.any_line ∷ []) known.1 c.in_ok-deny_rest-in-Err.ensures.rules in
    record {
      added = added_deny was now c.tell_unsaid.new.self early mid late rule rest whole so (keeps_more now c.tell_older.new.self c.tell_unsaid.new.self c.tell_older.ensures c.tell_unsaid.ensures.keeps)
          (tells_more now c.tell_older.new.self c.tell_unsaid.new.self c.tell_older.ensures c.tell_unsaid.ensures.tells) about known.0 denies (written_is early.name blank early.any_line early.any_line_is) ends;
      memory = tt;
    }

pub rules-preserved : goal.rules-preserved
rules-preserved c =
    let was = c.args.self.now in
    let now = c.rules.self in
    let early = c.args.block.now in
    let mid = c.rules.block in
    let whole = c.args.rules.now in
    let rule = c.rule-item.result in
    let rest = drop (c.rules.rule-index + 1) whole in
    let so : Taking was now early mid (rule ∷ rest) whole =
    subst (λ (r : List Rule). Taking was now early mid r whole) (front_is whole c.rules.rule-index rule c.rules-test.true c.rule-item.is) c.rules.invariant in
    elim c.match-add.branch [
      | in-Ok-false w ↦
          let there = the_said (said mid.name rule.expression) w.in-Ok-false.ensures.is_said in
          let step = at_some (said mid.name rule.expression) (λ (f : Expression × List ℕ). DecideAlike (listed c.add.new.self) (listed mid ++ of_verdict rule.verdict f.1 ∷ [])) there.0 there.1 w.in-Ok-false.ensures.alike in
          let keeps : Keeps now c.match-add.self = subst (λ (d : Draft). Keeps now d) (sym w.self-is) c.tell_older.ensures in
          taking_said was now c.match-add.self early mid c.add.new.self rule rest whole there.0 so keeps w.in-Ok-false.ensures.about there.1 step
      | in-Err+else-ran_out+else-eq w ↦
          let known = unless_out (said mid.name rule.expression) mid c.add.new.self w.in-Err.why (sym w.ran_out.ensures ∙ w.if-ran_out.false) w.in-Err.ensures.unsaid in
          let permits : rule.verdict ≡ Permit = not_deny rule.verdict (λ (e : rule.verdict ≡ Deny). search rules) in
          let keeps : Keeps now c.match-add.self = subst (λ (d : Draft). Keeps now d) (sym w.self-is) (keeps_more now c.tell_older.new.self w.tell_unsaid.new.self c.tell_older.ensures w.tell_unsaid.ensures.keeps) in
          let tells : Tells now c.match-add.self = subst (λ (d : Draft). Tells now d) (sym w.self-is) (tells_more now c.tell_older.new.self w.tell_unsaid.new.self c.tell_older.ensures w.tell_unsaid.ensures.tells) in
          subst (λ (b : Block). Taking was c.match-add.self early b rest whole) (sym known.1)
          (taking_permit was now c.match-add.self early mid rule rest whole so keeps tells known.0 permits)
    ]
