use Rattle.std.proofs.Common.{◌≡◌, ℕ, List, ◌+◌, ◌++◌, ◌∷◌, [], sym, ap, ◌∙◌, subst, take}
use Rattle.std.proofs.lemmas.List.{take_more, take_all}
use Rattle.pol_automaton.specs.Entries.{AreEntries}
use Rattle.pol_automaton.proofs.Counting.{excludes}
use Rattle.pol_automaton.proofs.decider.Decider.own.Goals as goal

pub returns-in_err-add-clause-excludes : goal.returns-in_err-add-clause-excludes
returns-in_err-add-clause-excludes c = excludes

pub loop-pattern-preserved : goal.loop-pattern-preserved
loop-pattern-preserved c =
    let xs = c.args.patterns.now in
    let i = c.loop-pattern.pattern-index in
    let x = c.pattern-item.result in
    let whole : take (i + 1) xs ≡ take i xs ++ x ∷ [] = take_more xs i x c.loop-pattern-test.true ∙ ap (λ w. take i xs ++ w ∷ []) (sym c.pattern-item.is) in
    subst (λ (l : List (List ℕ)). AreEntries c.add.new.self l) (sym whole) (c.in_ok-add.ensures.ok (take i xs) c.loop-pattern.invariant)

pub returns-clause-exact : goal.returns-clause-exact
returns-clause-exact c = λ residuals has.
    let xs = c.args.patterns.now in
    let whole : take c.loop-pattern.pattern-index xs ≡ xs = take_all c.loop-pattern.pattern-index xs c.loop-pattern-test.false in
    c.of.ensures.exact xs residuals (subst (AreEntries c.loop-pattern.entries) whole c.loop-pattern.invariant) has
