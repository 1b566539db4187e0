use Rattle.std.proofs.Common.{◌≡◌, ◌+◌, Bool, ◌||◌, take, drop, ap, ◌∙◌, sym, length-drop, arith}
use Rattle.std.proofs.Math.Bool.{or_assoc}
use Rattle.std.proofs.lemmas.List.{take_rest, drop-drop}
use Rattle.pol_pattern.specs.Flat.{Term, put, Terms, alt, factor_value, term_value, terms_value}
use Rattle.pol_pattern.specs.Matching.{factor_positions, term_positions, terms_positions, term_ends, terms_end}
use Rattle.pol_pattern.specs.Values.{value_class, value_group, value_star}
use Rattle.pol_pattern.proofs.Descent.{term_value-drop, terms_value-drop, factor_weight, term_weight-item, terms_weight-item}
use Rattle.pol_pattern.proofs.Parts.{term_ends-put, terms_end-alt}
use Rattle.pol_pattern.proofs.matching.+ends.Goals as goal
use Rattle.pol_pattern.proofs.matching.+ends.Goals.{factor_ends-then-before, factor_ends-else-before}

pub factor_ends-terms_end-requires : goal.factor_ends-terms_end-requires
factor_ends-terms_end-requires t c =
    let e = ap factor_value c.in-Group.is ∙ value_group c.in-Group.terms in
    rw c.deref.ensures.value (omega (arith, c.decreases, ap factor_weight e), omega (arith, ap factor_positions e))

pub factor_ends-terms_end-ends-requires : goal.factor_ends-terms_end-ends-requires
factor_ends-terms_end-ends-requires t c =
    let e = ap factor_value c.in-Star.is ∙ value_star c.in-Star.terms in
    rw c.deref-in-Star.ensures.value (omega (arith, c.decreases, ap factor_weight e), omega (arith, ap factor_positions e))

pub factor_ends-returns-in-Class-clause-rest : goal.factor_ends-returns-in-Class-clause-rest
factor_ends-returns-in-Class-clause-rest t c = rw (c.in-Class.is, value_class c.in-Class.field-0) (take_rest c.args.marks.now 1)

pub factor_ends-returns-in-Group-clause-ends : goal.factor_ends-returns-in-Group-clause-ends
factor_ends-returns-in-Group-clause-ends t c =
    rw (c.in-Group.is, value_group c.in-Group.terms, ← c.deref.ensures.value) c.terms_end.ensures.ends

pub factor_ends-returns-in-Group-clause-rest : goal.factor_ends-returns-in-Group-clause-rest
factor_ends-returns-in-Group-clause-rest t c =
    rw (c.in-Group.is, value_group c.in-Group.terms, ← c.deref.ensures.value) c.terms_end.ensures.rest

pub factor_ends-returns-after-before-clause-ends : goal.factor_ends-returns-after-before-clause-ends
factor_ends-returns-after-before-clause-ends t c =
    let terms = c.in-Star.terms in
    let again = rw c.deref-in-Star.ensures.value at c.terms_end-ends.ensures.ends in
    rw (c.in-Star.is, value_star terms)
    (elim c.if-before.branch [
      | factor_ends-then-before w ↦ rw w.if-before.true (w.result-is ∙ w.if-before.true)
      | factor_ends-else-before w ↦ rw w.if-before.false (w.result-is ∙ again)
    ])

pub factor_ends-returns-after-before-clause-rest : goal.factor_ends-returns-after-before-clause-rest
factor_ends-returns-after-before-clause-rest t c =
    rw (c.in-Star.is, value_star c.in-Star.terms, ← c.deref-in-Star.ensures.value) c.terms_end-ends.ensures.rest

pub term_ends-factor_ends-requires : goal.term_ends-factor_ends-requires
term_ends-factor_ends-requires t c =
    let l = c.loop-factor in
    let e = ap term_positions (term_value-drop c.args.factors.now l.factor-index c.factor-item.result c.loop-factor-test.true c.factor-item.is) in
    let falls = term_weight-item c.args.factors.now l.factor-index c.factor-item.result c.loop-factor-test.true c.factor-item.is in
    (omega (arith, c.decreases, falls), omega (arith, e, l.invariant.fit))

pub term_ends-loop-factor-preserved : goal.term_ends-loop-factor-preserved
term_ends-loop-factor-preserved t c =
    let l = c.loop-factor in
    let factor = factor_value c.factor-item.result in
    let rest = term_value (drop (l.factor-index + 1) c.args.factors.now) in
    let marks = l.rest.now in
    let more : term_value (drop l.factor-index c.args.factors.now) ≡ put factor rest =
    term_value-drop c.args.factors.now l.factor-index c.factor-item.result c.loop-factor-test.true c.factor-item.is
    in
    let e = c.factor_ends.ensures in
    record {
      fit = rw e.rest (omega (arith, length-drop (factor_positions factor) marks, ap term_positions more, l.invariant.fit));
      same = rw (e.ends, e.rest)
          (sym (term_ends-put factor rest l.ends marks) ∙ ap (λ (x : Term). term_ends x l.ends (take (term_positions x) marks)) (sym more) ∙ l.invariant.same);
      left = rw e.rest
          (drop-drop (term_positions rest) (factor_positions factor) marks ∙ ap (λ (x : Term). drop (term_positions x) marks) (sym more) ∙ l.invariant.left);
    }

pub terms_end-term_ends-own-requires : goal.terms_end-term_ends-own-requires
terms_end-term_ends-own-requires t c =
    let l = c.loop-term in
    let e = ap terms_positions (terms_value-drop c.args.terms.now l.term-index c.term-item.result c.loop-term-test.true c.term-item.is) in
    let falls = terms_weight-item c.args.terms.now l.term-index c.term-item.result c.loop-term-test.true c.term-item.is in
    rw c.deref.ensures.value (omega (arith, c.decreases, falls), omega (arith, e, l.invariant.fit))

pub terms_end-loop-term-preserved : goal.terms_end-loop-term-preserved
terms_end-loop-term-preserved t c =
    let l = c.loop-term in
    let before = c.args.before in
    let term = term_value c.term-item.result.items in
    let rest = terms_value (drop (l.term-index + 1) c.args.terms.now) in
    let marks = l.rest.now in
    let more : terms_value (drop l.term-index c.args.terms.now) ≡ alt term rest =
    terms_value-drop c.args.terms.now l.term-index c.term-item.result c.loop-term-test.true c.term-item.is
    in
    let ends = rw c.deref.ensures.value at c.term_ends-own.ensures.ends in
    let left = rw c.deref.ensures.value at c.term_ends-own.ensures.rest in
    let own = term_ends term before (take (term_positions term) marks) in
    let others = terms_end rest before (take (terms_positions rest) (drop (term_positions term) marks)) in
    record {
      fit = rw left (omega (arith, length-drop (term_positions term) marks, ap terms_positions more, l.invariant.fit));
      same = rw (ends, left)
          (or_assoc l.ends own others ∙ ap (λ (b : Bool). l.ends || b) (sym (terms_end-alt term rest before marks))
          ∙ ap (λ (x : Terms). l.ends || terms_end x before (take (terms_positions x) marks)) (sym more) ∙ l.invariant.same);
      left = rw left
          (drop-drop (terms_positions rest) (term_positions term) marks ∙ ap (λ (x : Terms). drop (terms_positions x) marks) (sym more) ∙ l.invariant.left);
    }
