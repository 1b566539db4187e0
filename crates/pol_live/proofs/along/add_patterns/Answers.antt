use Rattle.std.proofs.Common.{◌≡◌, ◌<◌, ℕ, List, length, get_or, sym, subst}
use Rattle.pol_automaton.specs.Entries.{AreEntries}
use Rattle.pol_live.proofs.AlongFacts.{more_patterns}
use Rattle.pol_live.proofs.along.add_patterns.Goals as goal

pub loop-rule-preserved : goal.loop-rule-preserved
loop-rule-preserved c =
    let rules = c.args.subject.now.rules in
    let lt : c.loop-rule.rule-index < length rules = rw (← c.loop-rule.invariant.same) c.loop-rule-test.true in
    let at : get_or rules c.loop-rule.rule-index c.rule-item.result ≡ c.rule-item.result = rw (← c.loop-rule.invariant.same) (sym c.rule-item.is) in
    record {
      added = λ known h. subst (λ (k : List (List ℕ)). AreEntries c.add.new.self k) (sym (more_patterns known rules c.loop-rule.rule-index c.rule-item.result lt at)) (c.in_ok-add.ensures.ok _ (c.loop-rule.invariant.added known h));
      same = c.loop-rule.invariant.same;
    }
