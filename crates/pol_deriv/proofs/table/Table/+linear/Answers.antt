use Rattle.std.proofs.Common.{◌≡◌, [], refl, subst, sym, ap, ◌∙◌, arith}
use Rattle.pol_pattern.specs.Flat.{join_term}
use Rattle.pol_deriv.specs.Linear.{factor_holds_empty, continuation}
use Rattle.pol_deriv.specs.Nodes.{term_at, first_factor, rest_of}
use Rattle.pol_deriv.specs.Forms.{HasAdded}
use Rattle.pol_deriv.proofs.Tables.{means_within, at_means}
use Rattle.pol_deriv.proofs.Forming.{is_star, no_star, first_linear, after_same, begins_at, none_added, class_end, factors_more, factors_end, terms_first, terms_more, terms_end, mark_end, rest_if}
use Rattle.pol_deriv.proofs.table.Table.+linear.Goals as goal
use Rattle.pol_deriv.proofs.table.Table.+linear.Goals.{linear_terms-in-Star, linear_terms-in_default}

-- ---- a whole term

pub linear-factors-init : goal.linear-factors-init
linear-factors-init t c =
    let table = c.args.self.now in
    record {
      below = omega arith;
      so_far = record {
        keeps = λ number term means. means;
        left = term_at table c.args.term;
        here = at_means table c.args.term c.requires.term;
        done = [];
        made = none_added table c.args.form.now.items;
        pairs = refl;
      };
    }

pub linear-node-requires : goal.linear-node-requires
linear-node-requires t c = means_within c.factors.self c.factors.at _ c.factors.invariant.so_far.here

pub linear-join-requires-clause-front : goal.linear-join-requires-clause-front
linear-join-requires-clause-front t c =
    let within = means_within c.factors.self c.factors.at _ c.factors.invariant.so_far.here in
    omega (arith, within, c.in-Class.ensures.right)

pub linear-join-requires-clause-back : goal.linear-join-requires-clause-back
linear-join-requires-clause-back t c =
    means_within c.factors.self c.args.after _ (c.factors.invariant.so_far.keeps _ _ (at_means c.args.self.now c.args.after c.requires.after))

pub linear-returns-in-Class-clause-exact : goal.linear-returns-in-Class-clause-exact
linear-returns-in-Class-clause-exact t c =
    let old = c.args.self.now in
    let new = c.factors.self in
    let so_far = c.factors.invariant.so_far in
    let same = after_same old new so_far.keeps c.args.after c.requires.after in
    let next = rw same at c.in_ok-next-in-Class.ensures.meant in
    class_end old new (term_at old c.args.term) (term_at old c.args.after) c.factors.at c.args.form.now.items c.factors.form.items so_far c.in-Class.class (term_at new c.in-Class.rest)
    c.join.new.self c.in_ok-next-in-Class.next c.push.new.self.items c.in-Class.ensures.meant c.join.ensures.grows.kept next c.in_ok-push-in-Class.ensures.items

pub linear-linear_terms-requires : goal.linear-linear_terms-requires
linear-linear_terms-requires t c =
    let new = c.factors.self in
    let so_far = c.factors.invariant.so_far in
    let after = so_far.keeps c.args.after _ (at_means c.args.self.now c.args.after c.requires.after) in (
      omega (arith, c.decreases, c.factors.invariant.below),
      (
        means_within new c.factors.at so_far.left so_far.here,
        (
          means_within new c.args.after _ after,
          begins_at new c.factors.at c.node.result c.in-Group.is c.node.ensures.right c.node.ensures.meant,
        ),
      ),
    )

pub linear-returns-in-None : goal.linear-returns-in-None
linear-returns-in-None t c =
    let old = c.args.self.now in
    let new = c.factors.self in
    let so_far = c.factors.invariant.so_far in
    let at = c.factors.at in
    let after = term_at old c.args.after in
    let grows = c.linear_terms.ensures.grows in
    let same = after_same old new so_far.keeps c.args.after c.requires.after in
    let begun = rw same at c.in_ok-rest-in-Group.ensures.exact in
    let holds = rw c.in-None.is at c.in_ok-rest-in-Group.ensures.rest in
    let begins = begins_at new at c.node.result c.in-Group.is c.node.ensures.right c.node.ensures.meant in
    let means = at_means new at (means_within new at so_far.left so_far.here) in
    record {
      grows = record { kept = λ n term m. grows.kept n term (so_far.keeps n term m); distinct = grows.distinct };
      exact = factors_end old new (term_at old c.args.term) after at c.args.form.now.items c.factors.form.items so_far c.linear_terms.new.self c.linear_terms.new.form.items means begins grows.kept begun holds;
    }

pub linear-factors-preserved : goal.linear-factors-preserved
linear-factors-preserved t c =
    let old = c.args.self.now in
    let new = c.factors.self in
    let so_far = c.factors.invariant.so_far in
    let at = c.factors.at in
    let after = term_at old c.args.after in
    let grows = c.linear_terms.ensures.grows in
    let same = after_same old new so_far.keeps c.args.after c.requires.after in
    let begun = rw same at c.in_ok-rest-in-Group.ensures.exact in
    let rest = rw c.in-Some.is at c.in_ok-rest-in-Group.ensures.rest in
    let begins = begins_at new at c.node.result c.in-Group.is c.node.ensures.right c.node.ensures.meant in
    let means = at_means new at (means_within new at so_far.left so_far.here) in
    record {
      below = omega (arith, rest.1, c.factors.invariant.below);
      so_far = factors_more old new (term_at old c.args.term) after at c.args.form.now.items c.factors.form.items so_far c.linear_terms.new.self c.linear_terms.new.form.items means begins grows.kept begun c.in-Some.rest rest.0 rest.2;
    }

-- ---- the terms of a group or a star

pub linear_terms-terms-init : goal.linear_terms-terms-init
linear_terms-terms-init t c =
    let old = c.args.self.now in
    let whole = term_at old c.args.term in
    let kind = c.end-kind.result.0 in
    let star : c.match-matches.matches ≡ is_star kind =
    elim c.match-matches.branch [
      | linear_terms-in-Star w ↦ w.matches-is ∙ sym (ap is_star w.in-Star.is)
      | linear_terms-in_default w ↦ w.matches-is ∙ sym (no_star kind w.in_default.not-Star)
    ] in
    record {
      below = omega arith;
      so_far = terms_first old c.continuation.new.self c.args.term c.in_ok-next.next (continuation (first_factor whole) (join_term (rest_of whole) (term_at old c.args.after))) c.match-matches.matches c.args.form.now.items
          c.continuation.ensures.grows (at_means old c.args.term c.requires.term) c.requires.begins c.in_ok-next.ensures.meant (star ∙ ap is_star c.end-kind.ensures.kind);
    }

pub linear_terms-node-requires : goal.linear_terms-node-requires
linear_terms-node-requires t c = means_within c.terms.self c.terms.at _ c.terms.invariant.so_far.here

pub linear_terms-holds_empty-holds_empty-requires : goal.linear_terms-holds_empty-holds_empty-requires
linear_terms-holds_empty-holds_empty-requires t c =
    let within = means_within c.terms.self c.terms.at _ c.terms.invariant.so_far.here in
    omega (arith, within, c.in-Alternative.ensures.right.1)

pub linear_terms-linear-requires : goal.linear_terms-linear-requires
linear_terms-linear-requires t c =
    let within = means_within c.terms.self c.terms.at _ c.terms.invariant.so_far.here in
    let first = c.in-Alternative.ensures.right.1 in (
      omega (arith, c.decreases, c.terms.invariant.below, first),
      (omega (arith, within, first), means_within c.terms.self c.in_ok-next.next _ c.terms.invariant.so_far.goes_on),
    )

pub linear_terms-terms-preserved : goal.linear_terms-terms-preserved
linear_terms-terms-preserved t c =
    let old = c.args.self.now in
    let new = c.terms.self in
    let whole = term_at old c.args.term in
    let after = continuation (first_factor whole) (join_term (rest_of whole) (term_at old c.args.after)) in
    let right = c.in-Alternative.ensures.right in
    let within = means_within new c.terms.at _ c.terms.invariant.so_far.here in
    let at_rest = at_means new c.in-Alternative.rest (omega (arith, right.0, within)) in
    record {
      below = omega (arith, c.terms.invariant.below, right.0);
      so_far = terms_more old new whole after c.terms.at c.in_ok-next.next c.terms.holds_empty c.args.form.now.items c.terms.form.items c.terms.invariant.so_far c.in-Alternative.first c.in-Alternative.rest
          c.holds_empty-holds_empty.result c.linear.new.self c.linear.new.form.items right.2 at_rest c.in-Alternative.ensures.meant c.linear.ensures.grows c.in_ok-linear.ensures.exact
          c.holds_empty-holds_empty.ensures;
    }

pub linear_terms-returns : goal.linear_terms-returns
linear_terms-returns t c =
    let old = c.args.self.now in
    let new = c.terms.self in
    let whole = term_at old c.args.term in
    let rest = join_term (rest_of whole) (term_at old c.args.after) in
    let after = continuation (first_factor whole) rest in
    let so_far = c.terms.invariant.so_far in
    let pairs = terms_end old new whole after c.terms.at c.in_ok-next.next c.terms.holds_empty c.args.form.now.items c.terms.form.items so_far c.node.result c.in_default-node.not-Alternative c.node.ensures.meant in
    let at_rest = so_far.grows.kept c.end-kind.result.1 _
    (rw c.end-kind.ensures.rest at (at_means old c.end-kind.result.1 (omega (arith, c.end-kind.ensures.below, c.requires.term)))) in
    let mark = mark_end old new whole after c.terms.at c.in_ok-next.next c.terms.holds_empty c.args.form.now.items c.terms.form.items so_far c.node.result c.in_default-node.not-Alternative c.node.ensures.meant in
    record {
      grows = so_far.grows;
      exact = subst (HasAdded new c.args.form.now.items c.terms.form.items) (sym (first_linear whole rest c.requires.begins)) pairs;
      rest = rw (c.then_some.ensures, mark) (rest_if (factor_holds_empty (first_factor whole)) c.end-kind.result.1 c.args.term new (rest_of whole) c.end-kind.ensures.below at_rest);
    }
