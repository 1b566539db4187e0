use Rattle.std.proofs.Common.{◌≡◌, ◌-◌, ◌+◌, true, false, eqb, length, sym, ◌∙◌}
use Rattle.std.proofs.lemmas.Result.{err_from_is_err_and}
use Rattle.posix_expression.specs.Trees.{state_of}
use Rattle.posix_expression.specs.Reading.{State, start, ended, read_within, reading}
use Rattle.posix_expression.proofs.ReadSteps.{too_long, short_enough, turn, ends_so, at_end, goes_so, fails_so}
use Rattle.posix_expression.proofs.reading.read_tree.Goals as goal

pub returns-then-text-gt-MOST_BYTES : goal.returns-then-text-gt-MOST_BYTES
returns-then-text-gt-MOST_BYTES c = too_long c.args.text.now c.if-text-gt-MOST_BYTES.true

pub returns-then-is_empty : goal.returns-then-is_empty
returns-then-is_empty c =
    let n = length c.args.text.now in
    let state : State = state_of c.steps.reading in
    let none : eqb (length c.steps.rest.now) 0 ≡ true = sym c.is_empty.ensures ∙ c.if-is_empty.true in
    let same : ended state ≡ reading c.args.text.now =
    ends_so (n - c.steps._step) state c.steps.rest.now (read_within n start c.args.text.now) none c.steps.invariant ∙ sym (short_enough c.args.text.now c.if-text-gt-MOST_BYTES.false) in
    rw (← same) c.finish.ensures

pub returns-in_err-next : goal.returns-in_err-next
returns-in_err-next c =
    let p = err_from_is_err_and c.from_residual.result c.from_residual.ensures.1 in
    let n = length c.args.text.now in
    let state : State = state_of c.steps.reading in
    let some : eqb (length c.steps.rest.now) 0 ≡ false = sym c.is_empty.ensures ∙ c.if-is_empty.false in
    rw (p.1, p.2, short_enough c.args.text.now c.if-text-gt-MOST_BYTES.false)
    (fails_so (n - (c.steps._step + 1)) state c.steps.rest.now c.in_err-next.field-0.0 (read_within n start c.args.text.now) some
    (turn n c.steps._step state c.steps.rest.now (read_within n start c.args.text.now) c.steps-test.true c.steps.invariant) (rw (← c.after_first.ensures) c.in_err-next.ensures))

pub steps-preserved : goal.steps-preserved
steps-preserved c =
    let n = length c.args.text.now in
    let state : State = state_of c.steps.reading in
    let some : eqb (length c.steps.rest.now) 0 ≡ false = sym c.is_empty.ensures ∙ c.if-is_empty.false in
    goes_so (n - (c.steps._step + 1)) state (state_of c.in_ok-next.next) c.steps.rest.now c.in_ok-next.after.now (read_within n start c.args.text.now) some
    (turn n c.steps._step state c.steps.rest.now (read_within n start c.args.text.now) c.steps-test.true c.steps.invariant) (rw (← c.after_first.ensures) c.in_ok-next.ensures)

pub returns : goal.returns
returns c =
    let n = length c.args.text.now in
    let state : State = state_of c.steps.reading in
    let same : ended state ≡ reading c.args.text.now =
    at_end n c.steps._step state c.steps.rest.now (read_within n start c.args.text.now) c.steps-test.false c.steps.invariant ∙ sym (short_enough c.args.text.now c.if-text-gt-MOST_BYTES.false) in
    rw (← same) c.finish-2.ensures
