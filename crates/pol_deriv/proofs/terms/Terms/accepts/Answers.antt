use Rattle.std.proofs.Common.{◌∙◌, List, ℕ, false, true, Contains, sym, subst}
use Rattle.std.proofs.lemmas.List.{take_all}
use Rattle.pol_deriv.proofs.Residuals.{residual_law}
use Rattle.pol_deriv.proofs.Steps.{item_within, accepts_one, accepts_none, residual_accepts}
use Rattle.pol_deriv.proofs.terms.Terms.accepts.Goals as goal

pub holds_empty-requires : goal.holds_empty-requires
holds_empty-requires c =
    let items = c.numbers-number-items.ensures.numbers in
    let table = c.args.self.now in
    rw (items, c.self.view_is) (item_within table table c.args.set.now c.loop-number.number-index (λ n t m. m) c.requires (rw items at c.loop-number-test.true))

pub returns-then-holds_empty-clause-exact : goal.returns-then-holds_empty-clause-exact
returns-then-holds_empty-clause-exact c =
    let items = c.numbers-number-items.ensures.numbers in
    let holds = sym (rw (items, c.self.view_is) at c.holds_empty.ensures) ∙ c.if-holds_empty.true in
    accepts_one c.args.self.now c.args.set.now c.loop-number.number-index c.requires (rw items at c.loop-number-test.true) holds

pub returns-then-holds_empty-clause-residual : goal.returns-then-holds_empty-clause-residual
returns-then-holds_empty-clause-residual c = λ parsed text.
    residual_accepts c.args.self.now c.args.set.now true parsed text (returns-then-holds_empty-clause-exact c)

pub returns-then-holds_empty-clause-law : goal.returns-then-holds_empty-clause-law
returns-then-holds_empty-clause-law c = residual_law

pub returns-clause-exact : goal.returns-clause-exact
returns-clause-exact c =
    let items = c.numbers-number-items.ensures.numbers in
    let set = c.args.set.now in
    let all = take_all c.loop-number.number-index set (rw items at c.loop-number-test.false) in
    let none = rw items at c.loop-number.invariant in
    accepts_none c.args.self.now set (λ n there. none n (subst (λ (l : List ℕ). Contains l n) (sym all) there))

pub returns-clause-residual : goal.returns-clause-residual
returns-clause-residual c = λ parsed text. residual_accepts c.args.self.now c.args.set.now false parsed text (returns-clause-exact c)

pub returns-clause-law : goal.returns-clause-law
returns-clause-law c = residual_law
