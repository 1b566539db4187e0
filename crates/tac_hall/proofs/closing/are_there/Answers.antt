use Rattle.std.proofs.Common.{rules, arith, ◌≡◌, ◌<◌, ◌-◌, true, false, zero, refl, sym, ◌∙◌}
use Rattle.tac_hall.specs.Closing.{is_there}
use Rattle.tac_hall.proofs.ClosingFacts.{there_more}
use Rattle.tac_hall.proofs.closing.are_there.Goals as goal

pub returns-then-not-is_there : goal.returns-then-not-is_there
returns-then-not-is_there g c =
    let some : 0 < c.numbers.left = omega (arith, c.numbers-test.true) in
    let none : is_there (c.numbers.left - 1) c.args.seats.now ≡ false = search rules in
    sym (sym c.numbers.invariant ∙ there_more c.numbers.left c.args.seats.now some ∙ rw none refl)

pub numbers-preserved : goal.numbers-preserved
numbers-preserved g c =
    let some : 0 < c.numbers.left = omega (arith, c.numbers-test.true) in
    let one : is_there (c.numbers.left - 1) c.args.seats.now ≡ true = search rules in
    sym (there_more c.numbers.left c.args.seats.now some ∙ rw one refl) ∙ c.numbers.invariant

pub returns : goal.returns
returns g c =
    let none : c.numbers.left ≡ zero = omega (arith, c.numbers-test.false) in
    sym (sym c.numbers.invariant ∙ rw none refl)
