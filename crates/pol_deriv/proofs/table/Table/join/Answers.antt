use Rattle.std.proofs.Common.{◌++◌, ◌∷◌, [], List, ℕ, length, subst, sym, ◌∙◌}
use Rattle.pol_pattern.specs.Flat.{Term, join_term}
use Rattle.pol_deriv.specs.Table.{Means}
use Rattle.pol_deriv.specs.Nodes.{term_at}
use Rattle.pol_deriv.proofs.Tables.{grows_on, means_within, term_means, at_means}
use Rattle.pol_deriv.proofs.Joined.{without_parts, Passed, passed_more, passed_fewer, passed_last, left_less, part_fits_joined, joined_more}
use Rattle.pol_deriv.proofs.table.Table.join.Goals as goal
use Rattle.pol_deriv.proofs.table.Table.join.Goals.{In-Some-pop}

pub parts-preserved : goal.parts-preserved
parts-preserved c =
    let table = c.args.self.now in
    let numbers = c.parts.passed.items in
    let front = term_at table c.args.front in
    rw c.in_ok-push.ensures.items (record {
      passed = passed_more table numbers c.parts.at front c.parts.invariant.passed c.parts.invariant.left;
      left = left_less table numbers c.parts.at c.in-Some.rest front c.parts.invariant.left c.in-Some.ensures.rest;
    })

pub passed-init : goal.passed-init
passed-init c =
    let table = c.args.self.now in
    let back = term_at table c.args.back in
    let end = sym (term_means table c.parts.at _ c.parts.invariant.left) ∙ c.in_default.ensures.none in
    record {
      grows = record { kept = λ number term means. means; distinct = c.rest.ensures.distinct };
      passed = c.parts.invariant.passed;
      joined = subst (λ (t : Term). Means table c.args.back (join_term t back)) (sym end) (at_means table c.args.back c.requires.back);
    }

popped : (c : In-Some-pop) → Passed c.args.self.now (c.pop.new.self.items ++ c.in-Some-pop.number ∷ []) (term_at c.args.self.now c.args.front)
popped c = subst (λ (l : List ℕ). Passed c.args.self.now l (term_at c.args.self.now c.args.front)) c.in-Some-pop.ensures.items c.passed.invariant.passed

pub put_part_of-requires-clause-number : goal.put_part_of-requires-clause-number
put_part_of-requires-clause-number c =
    let numbers = popped (goal.at.put_part_of-requires-clause-number c).In-Some-pop in
    let last = passed_last c.args.self.now c.pop.new.self.items c.in-Some-pop.number (term_at c.args.self.now c.args.front) numbers in
    means_within c.passed.self c.in-Some-pop.number _ (c.passed.invariant.grows.kept _ _ last)

pub put_part_of-requires-clause-other : goal.put_part_of-requires-clause-other
put_part_of-requires-clause-other c = means_within c.passed.self c.passed.joined _ c.passed.invariant.joined

so_far : (c : In-Some-pop) → Means c.passed.self c.passed.joined (join_term (without_parts (length (c.pop.new.self.items ++ c.in-Some-pop.number ∷ [])) (term_at c.args.self.now c.args.front)) (term_at c.args.self.now c.args.back))
so_far c =
    subst (λ (l : List ℕ). Means c.passed.self c.passed.joined (join_term (without_parts (length l) (term_at c.args.self.now c.args.front)) (term_at c.args.self.now c.args.back)))
    c.in-Some-pop.ensures.items c.passed.invariant.joined

pub put_part_of-requires-clause-fits : goal.put_part_of-requires-clause-fits
put_part_of-requires-clause-fits c =
    let table = c.args.self.now in
    let inside = (goal.at.put_part_of-requires-clause-fits c).In-Some-pop in
    part_fits_joined table c.passed.self c.passed.invariant.grows c.pop.new.self.items c.in-Some-pop.number c.passed.joined (term_at table c.args.front) (term_at table c.args.back)
    (popped inside) (so_far inside)

pub passed-preserved : goal.passed-preserved
passed-preserved c =
    let table = c.args.self.now in
    let inside = (goal.at.passed-preserved c).In-Some-pop in
    record {
      grows = grows_on c.passed.invariant.grows c.put_part_of.ensures.grows;
      passed = passed_fewer table c.pop.new.self.items c.in-Some-pop.number (term_at table c.args.front) (popped inside);
      joined = joined_more table c.passed.self c.passed.invariant.grows c.pop.new.self.items c.in-Some-pop.number c.passed.joined (term_at table c.args.front) (term_at table c.args.back)
          (popped inside) (so_far inside) c.put_part_of.new.self c.in_ok-joined.joined c.in_ok-joined.ensures.meant;
    }
