use Rattle.std.proofs.Common.{◌<◌, ◌≤◌, ◌++◌, ℕ, List, [], None, Some, refl, sym, subst, ◌∙◌, arith, append-nil, map}
use Rattle.pol_automaton.specs.Entries.{AreEntries}
use Rattle.pol_live.proofs.AlongFacts.{patterns_step, patterns_end}
use Rattle.pol_live.proofs.along.patterns_from.Goals as goal

pub chain-init : goal.chain-init
chain-init c = ([], c.new-found.ensures, refl)

pub returns-in-None : goal.returns-in-None
returns-in-None c =
    let left : c.chain.counter < 8 = omega arith in
    let known = c.chain.invariant.0 in
    let present = c.chain.present.now in
    let all = patterns_step c.args.policy.now present c.chain.counter None known _ left (sym c.in-None.ensures.found) c.chain.invariant.2 in
    subst (λ (es : List (List ℕ)). AreEntries c.add_patterns.new.entries es) (sym (append-nil (known ++ map (λ rule. rule.pattern) present.rules)) ∙ all) (c.in_ok-add_patterns.ensures known c.chain.invariant.1)

pub chain-preserved : goal.chain-preserved
chain-preserved c =
    let left : c.chain.counter < 8 = omega arith in
    let known = c.chain.invariant.0 in
    let present = c.chain.present.now in (
      known ++ map (λ rule. rule.pattern) present.rules,
      c.in_ok-add_patterns.ensures known c.chain.invariant.1,
      patterns_step c.args.policy.now present c.chain.counter (Some c.in-Some.group.now) known _ left (sym c.in-Some.ensures.found) c.chain.invariant.2,
    )

pub returns : goal.returns
returns c =
    let past : 8 ≤ c.chain.counter = omega arith in
    let all = patterns_end c.args.policy.now c.chain.present.now c.chain.counter c.chain.invariant.0 _ past c.chain.invariant.2 in
    subst (λ (es : List (List ℕ)). AreEntries c.chain.found es) all c.chain.invariant.1
