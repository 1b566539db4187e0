use Rattle.std.proofs.Common.{◌≡◌, ◌+◌, ◌<◌, ◌++◌, [], ◌∷◌, length, get_or, drop, None, Some, List, ℕ, ap, sym, subst, ◌∙◌}
use Rattle.pol_given.specs.Given.{attribute_in}
use Rattle.tac_desks.proofs.ServingFacts.{IsLeft, past_at, next_at}
use Rattle.tac_desks.proofs.serving.push_attributes.Goals as goal
use Rattle.tac_desks.proofs.serving.push_attributes.Goals.{in-Some+in_ok-push, in_default}

pub push-requires-clause-few : goal.push-requires-clause-few
push-requires-clause-few c =
    let lines = c.args.subject.now.services in
    let i = c.loop-line.line-index in
    let line = c.line-item.result in
    let lt : i < length lines = rw (← c.as_slice-line-items.ensures) c.loop-line-test.true in
    let at : get_or lines i line ≡ line = rw (← c.as_slice-line-items.ensures) (sym c.line-item.is) in
    let given : attribute_in c.args.service.now line ≡ Some c.in-Some.attribute.now = sym c.in-Some.ensures in
    let next = next_at c.args.service.now c.args.arguments.now lines c.loop-line.arguments i line c.in-Some.attribute.now lt at given c.loop-line.invariant in
    next.room c.requires.few

pub push-requires-clause-short : goal.push-requires-clause-short
push-requires-clause-short c =
    let lines = c.args.subject.now.services in
    let i = c.loop-line.line-index in
    let line = c.line-item.result in
    let lt : i < length lines = rw (← c.as_slice-line-items.ensures) c.loop-line-test.true in
    let at : get_or lines i line ≡ line = rw (← c.as_slice-line-items.ensures) (sym c.line-item.is) in
    let given : attribute_in c.args.service.now line ≡ Some c.in-Some.attribute.now = sym c.in-Some.ensures in
    let next = next_at c.args.service.now c.args.arguments.now lines c.loop-line.arguments i line c.in-Some.attribute.now lt at given c.loop-line.invariant in
    rw c.as_slice.ensures next.short

pub loop-line-preserved : goal.loop-line-preserved
loop-line-preserved c =
    let service = c.args.service.now in
    let was = c.args.arguments.now in
    let lines = c.args.subject.now.services in
    let now = c.loop-line.arguments in
    let i = c.loop-line.line-index in
    let line = c.line-item.result in
    let lt : i < length lines = rw (← c.as_slice-line-items.ensures) c.loop-line-test.true in
    let at : get_or lines i line ≡ line = rw (← c.as_slice-line-items.ensures) (sym c.line-item.is) in
    elim c.match-attribute_in.branch [
      | in-Some+in_ok-push w ↦
          let text = w.in-Some.attribute.now in
          let given : attribute_in service line ≡ Some text = sym w.in-Some.ensures in
          let next = next_at service was lines now i line text lt at given c.loop-line.invariant in
          let grown : c.match-attribute_in.arguments ≡ now ++ text ∷ [] = w.arguments-is ∙ w.in_ok-push.ensures.ok ∙ ap (λ (t : List ℕ). now ++ t ∷ []) w.as_slice.ensures in
          subst (λ list. IsLeft service was lines list (drop (i + 1) lines)) (sym grown) next.left
      | in_default w ↦
          let given : attribute_in service line ≡ None = sym w.in_default.ensures in
          let same : c.match-attribute_in.arguments ≡ now = w.arguments-is in
          subst (λ list. IsLeft service was lines list (drop (i + 1) lines)) (sym same) (past_at service was lines now i line lt at given c.loop-line.invariant)
    ]
