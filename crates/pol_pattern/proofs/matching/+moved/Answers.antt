use Rattle.std.proofs.Common.{◌≡◌, ◌+◌, ◌-◌, Bool, false, ◌||◌, List, ◌++◌, take, drop, length, refl, ap, ◌∙◌, sym, length-drop, arith}
use borrow.Rule.Slice.PartMut.{put_mid}
use Rattle.std.proofs.Math.Bool.{or_assoc}
use Rattle.std.proofs.lemmas.List.{take_rest}
use Rattle.pol_pattern.specs.Flat.{Term, put, Terms, alt, factor_value, term_value, terms_value}
use Rattle.pol_pattern.specs.Matching.{factor_positions, term_positions, terms_positions, factor_ends, term_ends, terms_end, factor_moved, term_moved, terms_moved}
use Rattle.pol_pattern.proofs.Left.{length-factor_moved, length-term_moved}
use Rattle.pol_pattern.proofs.Parts.{Writes, put_rest, part_writes, term_ends-put, terms_end-alt, term_moved-more, terms_moved-more}
use Rattle.pol_pattern.specs.Values.{value_group, value_star}
use Rattle.pol_pattern.proofs.Descent.{term_value-drop, terms_value-drop, factor_weight, term_weight-item, terms_weight-item}
use Rattle.pol_pattern.proofs.matching.+moved.Goals as goal
use Rattle.pol_pattern.proofs.matching.+moved.Goals.{move_factor-then-before-2, move_factor-else-before-2}

pub move_factor-move_terms-requires : goal.move_factor-move_terms-requires
move_factor-move_terms-requires t c =
    let e = ap factor_value c.in-Group.is ∙ value_group c.in-Group.terms in
    rw c.deref.ensures.value (omega (arith, c.decreases, ap factor_weight e), omega (arith, ap factor_positions e))

pub move_factor-terms_end-requires : goal.move_factor-terms_end-requires
move_factor-terms_end-requires t c =
    let e = ap factor_value c.in-Star.is ∙ value_star c.in-Star.terms in
    rw c.deref-else-before-2.ensures.value (omega (arith, ap factor_positions e))

pub move_factor-move_terms-count-requires : goal.move_factor-move_terms-count-requires
move_factor-move_terms-count-requires t c =
    let e = ap factor_value c.in-Star.is ∙ value_star c.in-Star.terms in
    rw c.deref-in-Star.ensures.value (omega (arith, c.decreases, ap factor_weight e), omega (arith, ap factor_positions e))

pub move_factor-returns-in-Group : goal.move_factor-returns-in-Group
move_factor-returns-in-Group t c = record {
  moved = rw (c.in-Group.is, value_group c.in-Group.terms, ← c.deref.ensures.value) c.move_terms.ensures.moved;
  ends = rw (c.in-Group.is, value_group c.in-Group.terms, ← c.deref.ensures.value) c.move_terms.ensures.ends;
  count = rw (c.in-Group.is, value_group c.in-Group.terms, ← c.deref.ensures.value) c.move_terms.ensures.count;
}

pub move_factor-returns-after-before-2 : goal.move_factor-returns-after-before-2
move_factor-returns-after-before-2 t c =
    let terms = terms_value c.in-Star.terms.items in
    let marks = c.args.marks.now in
    let own = take (terms_positions terms) marks in
    let left = drop (terms_positions terms) marks in
    let ends : c.if-before-2.ends ≡ (c.args.before || terms_end terms false own) =
    elim c.if-before-2.branch [
      | move_factor-then-before-2 w ↦ rw w.if-before-2.true (w.ends-is ∙ w.if-before-2.true)
      | move_factor-else-before-2 w ↦ rw (w.if-before-2.false, ← w.deref-else-before-2.ensures.value) (w.ends-is ∙ w.terms_end.ensures.ends)
    ]
    in
    record {
      moved = rw (c.in-Star.is, value_star c.in-Star.terms)
          (rw c.deref-in-Star.ensures.value at c.move_terms-count.ensures.moved
          ∙ ap (λ (b : Bool). terms_moved terms b c.args.symbol own ++ left) ends);
      ends = rw (c.in-Star.is, value_star c.in-Star.terms) ends;
      count = rw (c.in-Star.is, value_star c.in-Star.terms, ← c.deref-in-Star.ensures.value) c.move_terms-count.ensures.count;
    }

pub move_term-move_factor-own-requires : goal.move_term-move_factor-own-requires
move_term-move_factor-own-requires t c =
    let l = c.loop-factor in
    let e = ap term_positions (term_value-drop c.args.factors.now l.factor-index c.factor-item.result c.loop-factor-test.true c.factor-item.is) in
    let falls = term_weight-item c.args.factors.now l.factor-index c.factor-item.result c.loop-factor-test.true c.factor-item.is in
    (omega (arith, c.decreases, falls), rw take_rest (omega (arith, e, length-drop l.place l.marks, l.invariant.count, l.invariant.fit)))

pub move_term-loop-factor-preserved : goal.move_term-loop-factor-preserved
move_term-loop-factor-preserved t c =
    let l = c.loop-factor in
    let symbol = c.args.symbol in
    let marks = l.marks in
    let left = drop l.place marks in
    let factor = factor_value c.factor-item.result in
    let n = factor_positions factor in
    let rest = term_value (drop (l.factor-index + 1) c.args.factors.now) in
    let more : term_value (drop l.factor-index c.args.factors.now) ≡ put factor rest =
    term_value-drop c.args.factors.now l.factor-index c.factor-item.result c.loop-factor-test.true c.factor-item.is
    in
    let part = factor_moved factor l.ends symbol (take n left) in
    let after = put_mid l.place (length marks - l.place) marks c.move_factor-own.new.marks in
    let moved : c.move_factor-own.new.marks ≡ part ++ drop n left = rw take_rest at c.move_factor-own.ensures.moved in
    let ends : c.move_factor-own.result.0 ≡ factor_ends factor l.ends (take n left) = rw take_rest at c.move_factor-own.ensures.ends in
    let w : Writes marks part after l.place n (l.place + n) =
    part_writes marks part after l.place n (put_rest marks c.move_factor-own.new.marks l.place ∙ ap (λ (m : List Bool). take l.place marks ++ m) moved)
    (omega (arith, ap term_positions more, l.invariant.count, l.invariant.fit)) (length-factor_moved factor l.ends symbol (take n left))
    in
    rw (c.move_factor-own.ensures.count, ends)
    record {
      count = omega (arith, ap term_positions more, l.invariant.count);
      fit = omega (arith, w.wide, l.invariant.fit);
      moved =
          term_moved-more factor rest l.ends symbol marks part after l.place (l.place + n) w refl
          ∙ ap (λ (x : Term). take l.place marks ++ (term_moved x l.ends symbol (take (term_positions x) left) ++ drop (term_positions x) left)) (sym more)
          ∙ l.invariant.moved;
      ending = rw w.back
          (sym (term_ends-put factor rest l.ends left) ∙ ap (λ (x : Term). term_ends x l.ends (take (term_positions x) left)) (sym more)
          ∙ l.invariant.ending);
    }

pub move_terms-move_term-own-requires : goal.move_terms-move_term-own-requires
move_terms-move_term-own-requires t c =
    let l = c.loop-term in
    let e = ap terms_positions (terms_value-drop c.args.terms.now l.term-index c.term-item.result c.loop-term-test.true c.term-item.is) in
    let falls = terms_weight-item c.args.terms.now l.term-index c.term-item.result c.loop-term-test.true c.term-item.is in
    rw c.deref.ensures.value
    (omega (arith, c.decreases, falls), rw take_rest (omega (arith, e, length-drop l.place l.marks, l.invariant.count, l.invariant.fit)))

pub move_terms-loop-term-preserved : goal.move_terms-loop-term-preserved
move_terms-loop-term-preserved t c =
    let l = c.loop-term in
    let before = c.args.before in
    let symbol = c.args.symbol in
    let marks = l.marks in
    let left = drop l.place marks in
    let term = term_value c.term-item.result.items in
    let n = term_positions term in
    let rest = terms_value (drop (l.term-index + 1) c.args.terms.now) in
    let more : terms_value (drop l.term-index c.args.terms.now) ≡ alt term rest =
    terms_value-drop c.args.terms.now l.term-index c.term-item.result c.loop-term-test.true c.term-item.is
    in
    let own = term_ends term before (take n left) in
    let others = terms_end rest before (take (terms_positions rest) (drop n left)) in
    let part = term_moved term before symbol (take n left) in
    let after = put_mid l.place (length marks - l.place) marks c.move_term-own.new.marks in
    let e = rw c.deref.ensures.value at c.move_term-own.ensures in
    let moved : c.move_term-own.new.marks ≡ part ++ drop n left = rw take_rest at e.moved in
    let ends : c.move_term-own.result.0 ≡ own = rw take_rest at e.ends in
    let w : Writes marks part after l.place n (l.place + n) =
    part_writes marks part after l.place n (put_rest marks c.move_term-own.new.marks l.place ∙ ap (λ (m : List Bool). take l.place marks ++ m) moved)
    (omega (arith, ap terms_positions more, l.invariant.count, l.invariant.fit)) (length-term_moved term before symbol (take n left))
    in
    rw (e.count, ends)
    record {
      count = omega (arith, ap terms_positions more, l.invariant.count);
      fit = omega (arith, w.wide, l.invariant.fit);
      moved =
          terms_moved-more term rest before symbol marks part after l.place (l.place + n) w refl
          ∙ ap (λ (x : Terms). take l.place marks ++ (terms_moved x before symbol (take (terms_positions x) left) ++ drop (terms_positions x) left)) (sym more)
          ∙ l.invariant.moved;
      ending = rw w.back
          (or_assoc l.ends own others ∙ ap (λ (b : Bool). l.ends || b) (sym (terms_end-alt term rest before left))
          ∙ ap (λ (x : Terms). l.ends || terms_end x before (take (terms_positions x) left)) (sym more) ∙ l.invariant.ending);
    }
