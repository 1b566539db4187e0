use Rattle.std.proofs.Common.{ℕ, IsTrue, subst}
use Rattle.basics.specs.TextOrder.{IsLeast}
use Rattle.pol_scan.specs.Words.{IsWord, IsWordThat}
use Rattle.pol_scan.specs.Table.{walk, word_of}
use Rattle.pol_automaton.specs.Automaton.{Automaton}
use Rattle.pol_automaton.proofs.Reaching.{has_entry, least_word, reach_text, none_decided}
use Rattle.pol_automaton.proofs.decider.Decider.reach.Goals as goal

pub returns-in_default-clause-never : goal.returns-in_default-clause-never
returns-in_default-clause-never c = λ entries d. none_decided c.args.self.now entries d c.args.entry c.in_default.ensures.whole c.in_default.ensures.none

pub text_of-requires : goal.text_of-requires
text_of-requires c =
    let a : Automaton = record { alphabet = c.self.inside.alphabet; table = c.self.inside.table; firsts = c.self.inside.firsts.items; sures = c.self.inside.sures.items; entries = c.self.inside.entries } in
    let first = rw (← c.self.view_is) at c.in-Some.ensures.some in
    rw c.in_ok-word.ensures (subst (λ (n : ℕ). IsWord n (word_of a.table c.in-Some.state)) c.self.invariant.columns (c.self.invariant.words c.in-Some.state first.within))

pub returns-clause-reached : goal.returns-clause-reached
returns-clause-reached c =
    let a : Automaton = record { alphabet = c.self.inside.alphabet; table = c.self.inside.table; firsts = c.self.inside.firsts.items; sures = c.self.inside.sures.items; entries = c.self.inside.entries } in
    let first = rw (← c.self.view_is) at c.in-Some.ensures.some in
    rw (← c.self.view_is)
    (λ entries d.
    let least = subst (λ (n : ℕ). IsLeast (IsWordThat n (λ word. IsTrue (has_entry a c.args.entry (walk a.table word)))) (word_of a.table c.in-Some.state)) c.self.invariant.columns
    (least_word a entries d c.args.entry c.in-Some.state first) in
    reach_text a entries d c.args.entry c.text_of.result.items (c.text_of.ensures.least (λ word. has_entry a c.args.entry (walk a.table word)) (rw c.in_ok-word.ensures least)))
