use Rattle.std.proofs.Common.{sym, ◌∙◌, arith}
use Rattle.pol_deriv.proofs.Whole.{held_all, not_all, one_more}
use Rattle.pol_deriv.proofs.table.holds_all.Goals as goal

pub returns-then-not-holds : goal.returns-then-not-holds
returns-then-not-holds c =
    let not = sym c.holds.ensures ∙ c.if-not-holds.true in
    not_all c.args.class.now c.symbols.symbol c.symbols.auto.symbol c.symbols-test.true not

pub returns : goal.returns
returns c =
    held_all c.args.class.now c.requires (λ k above below. c.symbols.invariant k above (omega (arith, below, c.symbols-test.false)))

pub symbols-preserved : goal.symbols-preserved
symbols-preserved c =
    one_more c.args.class.now c.symbols.symbol c.symbols.invariant (sym c.holds.ensures ∙ c.if-not-holds.false)
