use Rattle.std.proofs.Common.{ℕ, Bool, List, ap₂, ◌+◌, ◌≤◌, length, get_or, drop, sym, ◌∙◌, arith, length-drop}
use Rattle.std.proofs.lemmas.Result.{err_from_is_err_and}
use Rattle.pol_pattern.specs.Reading.{token_at, tokens_from, outermost}
use Rattle.pol_pattern.proofs.Items.{rest_is}
use Rattle.pol_pattern.proofs.Front.{token_read, token_refused, context_refused, tokens_end, nothing_open, last_open}
use Rattle.pol_pattern.proofs.Faults.{fails_as}
use Rattle.pol_pattern.proofs.lexing.tokens.Goals as goal

pub returns-in_err-token : goal.returns-in_err-token
returns-in_err-token c =
    let p = err_from_is_err_and c.from_residual.result c.from_residual.ensures.1 in
    let whole = tokens_from c.args.version 0 0 outermost c.args.bytes.now in
    let byte = get_or c.args.bytes.now c.tokens.place 0 in
    rw (p.1, p.2) (fails_as c.in_err-token.field-0.0 whole
    (token_refused c.args.version c.tokens.tokens.items c.tokens.place c.args.bytes.now c.tokens.context c.in_err-token.field-0.0 whole c.tokens-test.true
    (ap₂ (λ (f : Bool) (r : List ℕ). token_at c.args.version f c.tokens.place byte r) (sym c.has_atom.ensures) (sym (rest_is c.args.bytes.now (c.tokens.place + 1))) ∙ sym c.in_err-token.ensures.exact) c.tokens.invariant.so_far))

pub returns-in_err-context : goal.returns-in_err-context
returns-in_err-context c =
    let p = err_from_is_err_and c.from_residual-in_err-context.result c.from_residual-in_err-context.ensures.1 in
    let whole = tokens_from c.args.version 0 0 outermost c.args.bytes.now in
    let byte = get_or c.args.bytes.now c.tokens.place 0 in
    rw (p.1, p.2) (fails_as c.in_err-context.field-0.0 whole
    (context_refused c.args.version c.tokens.tokens.items c.tokens.place c.args.bytes.now c.tokens.context c.in_ok-token.token c.in_ok-token.size c.in_err-context.field-0.0 whole c.tokens-test.true
    (ap₂ (λ (f : Bool) (r : List ℕ). token_at c.args.version f c.tokens.place byte r) (sym c.has_atom.ensures) (sym (rest_is c.args.bytes.now (c.tokens.place + 1))) ∙ sym c.in_ok-token.ensures.exact) (sym c.in_err-context.ensures) c.tokens.invariant.so_far))

pub tokens-preserved : goal.tokens-preserved
tokens-preserved c =
    let whole = tokens_from c.args.version 0 0 outermost c.args.bytes.now in
    let byte = get_or c.args.bytes.now c.tokens.place 0 in
    let within : c.in_ok-token.size ≤ length (drop (c.tokens.place + 1) c.args.bytes.now) + 1 = rw (rest_is c.args.bytes.now (c.tokens.place + 1)) at c.in_ok-token.ensures.within.1 in
    record {
      within = omega (arith, within, length-drop (c.tokens.place + 1) c.args.bytes.now, c.tokens-test.true);
      so_far = rw c.in_ok-push.ensures.items (token_read c.args.version c.tokens.tokens.items c.tokens.place c.args.bytes.now c.tokens.context c.in_ok-context.context c.in_ok-token.token c.in_ok-token.size whole
          c.tokens-test.true c.in_ok-token.ensures.within.0
          (ap₂ (λ (f : Bool) (r : List ℕ). token_at c.args.version f c.tokens.place byte r) (sym c.has_atom.ensures) (sym (rest_is c.args.bytes.now (c.tokens.place + 1))) ∙ sym c.in_ok-token.ensures.exact) (sym c.in_ok-context.ensures) c.tokens.invariant.so_far);
    }

pub returns-in-None : goal.returns-in-None
returns-in-None c =
    let whole = tokens_from c.args.version 0 0 outermost c.args.bytes.now in
    tokens_end c.args.version c.tokens.tokens.items c.tokens.place c.args.bytes.now c.tokens.context whole c.tokens-test.false c.tokens.invariant.so_far
    ∙ nothing_open c.tokens.tokens.items c.tokens.context.opened (sym c.in-None.ensures)

pub returns-in-Some : goal.returns-in-Some
returns-in-Some c =
    let whole = tokens_from c.args.version 0 0 outermost c.args.bytes.now in
    tokens_end c.args.version c.tokens.tokens.items c.tokens.place c.args.bytes.now c.tokens.context whole c.tokens-test.false c.tokens.invariant.so_far
    ∙ last_open c.tokens.tokens.items c.tokens.context.opened c.in-Some.last (sym c.in-Some.ensures)
