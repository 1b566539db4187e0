use Rattle.std.proofs.Common.{List, subst}
use Rattle.tac_plus_import.specs.declared.block.PolicyRule.{PolicyRule}
use Rattle.tac_plus_import.specs.Drafts.{Adds}
use Rattle.tac_plus_import.proofs.Answering.{cautious_law}
use Rattle.tac_plus_import.proofs.Keeping.{kept_law, full_adds, adds_so_far, adds_after}
use Rattle.tac_plus_import.proofs.draft.Draft.push_command.Goals as goal

pub returns-then-self-clause-said : goal.returns-then-self-clause-said
returns-then-self-clause-said c = λ able whole. full_adds c.args.self.now c.args.command.now.name c.args.command.now.rules.items c.args.is_decided_below able c.if-self.true whole

pub returns-then-self-clause-kept : goal.returns-then-self-clause-kept
returns-then-self-clause-kept c = kept_law

pub returns-then-self-clause-law : goal.returns-then-self-clause-law
returns-then-self-clause-law c = cautious_law

pub returns-in-Ok-clause-said : goal.returns-in-Ok-clause-said
returns-in-Ok-clause-said c = λ able whole.
    let was = c.args.self.now in
    let mid = c.rules_of.new.self in
    let now = c.push_rules.new.self in
    let rules = c.in-Ok.rules.items in
    let said = c.in-Ok.ensures.said in
    let adds : Adds mid rules now = subst (λ (r : List PolicyRule). Adds mid r now) c.deref.ensures.value (c.push_rules.ensures.adds whole) in
    (said.0, said.1, adds_so_far was now rules said.0 (adds_after was mid now rules c.in-Ok.ensures.keeps adds) said.2)

pub returns-in-Ok-clause-kept : goal.returns-in-Ok-clause-kept
returns-in-Ok-clause-kept c = kept_law

pub returns-in-Ok-clause-law : goal.returns-in-Ok-clause-law
returns-in-Ok-clause-law c = cautious_law

pub returns-then-ran_out-clause-kept : goal.returns-then-ran_out-clause-kept
returns-then-ran_out-clause-kept c = kept_law

pub returns-then-ran_out-clause-law : goal.returns-then-ran_out-clause-law
returns-then-ran_out-clause-law c = cautious_law

pub returns-else-ran_out-clause-kept : goal.returns-else-ran_out-clause-kept
returns-else-ran_out-clause-kept c = kept_law

pub returns-else-ran_out-clause-law : goal.returns-else-ran_out-clause-law
returns-else-ran_out-clause-law c = cautious_law
