use Rattle.std.proofs.Common.{◌<◌, ℕ, None, length, sym, ◌∙◌, subst}
use Rattle.std.specs.Prelude.{IfSome}
use Rattle.std.proofs.lemmas.List.{get_or_default}
use Rattle.pol_scan.specs.Table.{count}
use Rattle.pol_automaton.specs.Automaton.{Automaton}
use Rattle.pol_automaton.proofs.Joined.{if_some_from}
use Rattle.pol_automaton.proofs.decider.Decider.first_match.Goals as goal

pub returns-clause-below : goal.returns-clause-below
returns-clause-below c =
    let i = c.self.inside in
    let a : Automaton = record { alphabet = i.alphabet; table = i.table; firsts = i.firsts.items; sures = i.sures.items; entries = i.entries } in
    let lt : c.args.state < count a.table = subst (λ (x : Automaton). c.args.state < count x.table) (sym c.self.view_is) c.requires in
    let within : c.args.state < length i.firsts.items = subst (λ (n : ℕ). c.args.state < n) (sym c.self.invariant.firsts) lt in
    subst (λ (x : Automaton). IfSome c.index.result.now (λ n. n < x.entries)) c.self.view_is
    (if_some_from (λ n. n < a.entries) c.index.result.now
    (λ n e. c.self.invariant.below c.args.state n lt (get_or_default i.firsts.items c.args.state None c.index.result.now within ∙ sym c.index.ensures ∙ e)))
