use Rattle.std.proofs.Common.{◌≡◌, Some, None, refl, sym, arith}
use Rattle.pol_given.specs.Saying.{said}
use Rattle.pol_given.proofs.SayingFacts.{alike_step}
use Rattle.pol_given.proofs.comparing.alike_along.Goals as goal

pub returns-in-None-None : goal.returns-in-None-None
returns-in-None-None c = λ yes.
    let here : said c.chain.was.now ≡ said c.chain.is.now = c.say_alike.ensures c.if-not-say_alike.false in
    c.chain.invariant (alike_step c.args.old.now c.args.new.now c.chain.was.now c.chain.is.now c.chain.counter None None (omega arith) (sym c.in-None-None.ensures.found) (sym c.in-None-None.ensures'.found) here refl)

pub chain-preserved : goal.chain-preserved
chain-preserved c = λ behind.
    let here : said c.chain.was.now ≡ said c.chain.is.now = c.say_alike.ensures c.if-not-say_alike.false in
    c.chain.invariant (alike_step c.args.old.now c.args.new.now c.chain.was.now c.chain.is.now c.chain.counter (Some c.in-Some-Some.one.now) (Some c.in-Some-Some.two.now) (omega arith) (sym c.in-Some-Some.ensures.found) (sym c.in-Some-Some.ensures'.found) here behind)
