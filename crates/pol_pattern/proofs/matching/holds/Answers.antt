use Rattle.std.proofs.Common.{◌≡◌, ℕ, ◌+◌, Bool, true, false, List, get_or, take, drop, refl, sym, ap, ◌∙◌}
use Rattle.std.specs.Bool.{beq}
use Rattle.std.proofs.lemmas.List.{take_at, take-replicate, at_drop_more}
use Rattle.pol_pattern.specs.Flat.{terms_value}
use Rattle.pol_pattern.specs.Matching.{terms_positions, terms_moved, ends_after, matches_terms}
use Rattle.pol_pattern.proofs.Left.{length-terms_moved}
use Rattle.pol_pattern.proofs.Marks.{ends_after-unmarked}
use Rattle.pol_pattern.proofs.matching.holds.Goals as goal

pub loop-symbol-init : goal.loop-symbol-init
unfolding matches_terms
loop-symbol-init c =
    let terms = terms_value c.args.terms.now in
    record {
      wide = refl;
      same = ap (λ (marks : List Bool). ends_after terms true marks c.args.text.now) (take-replicate (terms_positions terms) 400 false c.requires);
    }

pub returns-then-not-contains : goal.returns-then-not-contains
returns-then-not-contains c =
    let l = c.loop-symbol in
    let text = c.args.text.now in
    let terms = terms_value c.args.terms.now in
    let n = terms_positions terms in
    let own = take n l.marks in
    let symbol = get_or text l.symbol-index 0 in
    let moved = terms_moved terms l.before symbol own in
    let rest = drop (l.symbol-index + 1) text in
    let step : ends_after terms l.before own (drop l.symbol-index text) ≡ ends_after terms false moved rest =
    at_drop_more (λ (t : List ℕ). ends_after terms l.before own t) text l.symbol-index 0 c.loop-symbol-test.true
    in
    let same : take c.move_terms-count.result.1 c.move_terms-count.new.marks ≡ moved =
    rw (c.move_terms-count.ensures.count, c.move_terms-count.ensures.moved) (take_at moved (drop n l.marks) n (length-terms_moved terms l.before symbol own))
    in
    let none = rw same at c.if-not-contains.ensures.value in
    let over : ends_after terms false moved rest ≡ false = ends_after-unmarked (λ (mark : Bool). beq mark true) refl terms moved rest (sym none) in
    sym over ∙ sym step ∙ l.invariant.same
