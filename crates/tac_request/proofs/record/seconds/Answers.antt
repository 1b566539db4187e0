use Rattle.std.proofs.Common.{sym, ◌∙◌, subst}
use Rattle.std.specs.Str.Parse.{ParsesUnsigned}
use Rattle.tac_request.proofs.RecordFacts.{seconds_of-none, seconds_of-parsed, digits-IsUtf8}
use Rattle.tac_request.proofs.record.seconds.Goals as goal

pub returns-then-not-are_digits : goal.returns-then-not-are_digits
returns-then-not-are_digits c = sym (seconds_of-none c.args.digits.now (sym c.are_digits.ensures ∙ c.if-not-are_digits.true))

pub returns-in-Ok : goal.returns-in-Ok
returns-in-Ok c =
    let all = sym c.are_digits.ensures ∙ c.if-not-are_digits.false in
    let parsed = subst (λ text. ParsesUnsigned 32 10 text c.parse.result) c.in-Ok.ensures.cases.0 c.parse.ensures.value.0 in
    c.ok.ensures.value ∙ seconds_of-parsed c.args.digits.now c.parse.result all parsed

pub returns-in-Err : goal.returns-in-Err
returns-in-Err c = absurd (c.in-Err.ensures.cases.0 (digits-IsUtf8 c.args.digits.now (sym c.are_digits.ensures ∙ c.if-not-are_digits.false)))
