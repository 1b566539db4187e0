use Rattle.std.proofs.Common.{◌≡◌, ◌++◌, List, ℕ, ap, sym, ◌∙◌}
use Rattle.pol_names.specs.SubjectId.{user_id}
use Rattle.pol_text.specs.Policy.{level_of}
use Rattle.pol_given.specs.Given.{attributes_of}
use Rattle.tac_request.specs.Arguments.{level_arguments}
use Rattle.tac_conn.specs.declared.ask.Answer.TheVariants.{Permitted, Granted}
use Rattle.tac_desks.proofs.ServingFacts.{level_alone, level_before, some_given}
use Rattle.tac_desks.proofs.authorisation.shell_answer.Goals as goal

pub returns-then-not-gives_any-clause-answer : goal.returns-then-not-gives_any-clause-answer
returns-then-not-gives_any-clause-answer c =
    let level : c.level_of-level.result ≡ level_of c.args.policy.now (user_id c.args.user.now) = c.level_of-level.ensures ∙ ap (level_of c.args.policy.now) c.user.ensures in
    ap Permitted level
    ∙ sym (level_alone c.args.policy.now c.args.user.now c.shell-service.result c.in-Some.owner.now c.shell-service.ensures c.in-Some.ensures.exact (sym c.gives_any.ensures ∙ c.if-not-gives_any.true))

pub returns-in_err-push_level-clause-sure : goal.returns-in_err-push_level-clause-sure
returns-in_err-push_level-clause-sure c = λ e.
    absurd (some_given c.args.policy.now c.args.user.now c.shell-service.result c.in-Some.owner.now c.shell-service.ensures c.in-Some.ensures.exact (sym c.gives_any.ensures ∙ c.if-not-gives_any.false) e)

pub returns-in_err-push_attributes-clause-sure : goal.returns-in_err-push_attributes-clause-sure
returns-in_err-push_attributes-clause-sure c = λ e.
    absurd (some_given c.args.policy.now c.args.user.now c.shell-service.result c.in-Some.owner.now c.shell-service.ensures c.in-Some.ensures.exact (sym c.gives_any.ensures ∙ c.if-not-gives_any.false) e)

pub returns-clause-answer : goal.returns-clause-answer
returns-clause-answer c =
    let attributes = attributes_of c.shell-service.result c.in-Some.owner.now in
    let level : c.level_of-level.result ≡ level_of c.args.policy.now (user_id c.args.user.now) = c.level_of-level.ensures ∙ ap (level_of c.args.policy.now) c.user.ensures in
    let first : c.push_level.new.arguments ≡ level_arguments (level_of c.args.policy.now (user_id c.args.user.now)) = c.in_ok-push_level.ensures ∙ ap level_arguments level in
    ap Granted (c.in_ok-push_attributes.ensures.ok ∙ ap (λ (list : List (List ℕ)). list ++ attributes) first)
    ∙ sym (level_before c.args.policy.now c.args.user.now c.shell-service.result c.in-Some.owner.now c.shell-service.ensures c.in-Some.ensures.exact (sym c.gives_any.ensures ∙ c.if-not-gives_any.false))
