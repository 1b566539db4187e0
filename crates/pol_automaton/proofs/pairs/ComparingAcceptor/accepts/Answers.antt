use Rattle.std.proofs.Common.{◌≡◌, ◌∙◌, sym, subst, IsTrue}
use Rattle.pol_scan.specs.Alphabet.{text_of}
use Rattle.pol_automaton.specs.Pairs.{Comparison, comparison_of, changes, changes_here}
use Rattle.pol_automaton.proofs.pairs.ComparingAcceptor.accepts.Goals as goal

pub returns : goal.returns
returns c = λ word led.
    let m = c.args.self.now in
    let s = c.args.state.now in
    let compared : Comparison = comparison_of m.old.now m.old_verdicts.now m.new.now m.new_verdicts.now m.way in
    let answer = rw (c.verdict_by-before.ensures, c.first_match.ensures.value, c.verdict_by-after.ensures, c.first_match-2.ensures.value) at c.is_change.ensures in
    let is : c.is_change.result ≡ changes compared (text_of m.alphabet word) = answer ∙ changes_here m.alphabet compared word s.0 s.1 led in
    (λ h. subst IsTrue is h, λ h. subst IsTrue (sym is) h)
