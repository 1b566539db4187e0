use Rattle.std.proofs.Common.{◌≡◌, ◌<◌, List, [], ℕ, IfSome, is_some, false, count_by, ap, sym, subst, ◌∙◌}
use Rattle.std.specs.Str.{bytes_eq}
use Rattle.std.specs.HashMap.{get}
use Rattle.tac_census.specs.Census.{Connections, without_first, without}
use Rattle.tac_census.specs.Counting.{there_after}
use Rattle.tac_census.proofs.CountFacts.{there_after-append, positive, some-entry_of, none-entry_of, without_first-none, without-with_one, counted_same, counted_less}
use Rattle.tac_census.proofs.census.Census.leave.Goals as goal

pub take_one-requires : goal.take_one-requires
take_one-requires c = subst (λ entry. IfSome entry (λ count. 0 < count)) (sym (c.self.invariant.entries c.segments_of-segments.result)) (positive _)

pub invariant_of-self : goal.invariant_of-self
invariant_of-self c =
    let was = c.self.inside in
    let there = there_after [] was.history.items in
    let these = c.segments_of-segments.result in
    let none : count_by (bytes_eq these) there ≡ 0 = none-entry_of _ (ap is_some (sym (c.self.invariant.entries these)) ∙ sym c.take_one.ensures.there ∙ c.if-not-take_one.true) in
    counted_same was.in_all was.all (get bytes_eq was.counts) (get bytes_eq c.take_one.new.table) these there c.self.invariant none c.take_one.ensures.less

pub returns-then-not-take_one-clause-gone : goal.returns-then-not-take_one-clause-gone
returns-then-not-take_one-clause-gone c =
    let was = c.self.inside in
    let there = there_after [] was.history.items in
    let these = c.segments_of-segments.result in
    let present : List (List ℕ) → Connections = λ l. record { in_all = was.in_all; present = l } in
    let none : count_by (bytes_eq these) there ≡ 0 = none-entry_of _ (ap is_some (sym (c.self.invariant.entries these)) ∙ sym c.take_one.ensures.there ∙ c.if-not-take_one.true) in
    rw (← c.self.view_is)
    (ap present (sym (without_first-none these there none) ∙ ap (λ one. without_first one there) c.segments_of-segments.ensures))

pub returns-then-not-take_one-clause-undone : goal.returns-then-not-take_one-clause-undone
returns-then-not-take_one-clause-undone c = λ before is.
    returns-then-not-take_one-clause-gone c ∙ ap (without c.args.address) is ∙ without-with_one c.args.address before

pub invariant_of-self-2 : goal.invariant_of-self-2
invariant_of-self-2 c =
    let was = c.self.inside in
    let there = there_after [] was.history.items in
    let these = c.segments_of-segments.result in
    let there' = ap (there_after []) c.and-self-inside.ensures ∙ there_after-append [] was.history.items these false in
    let some : 0 < count_by (bytes_eq these) there = some-entry_of _ (ap is_some (sym (c.self.invariant.entries these)) ∙ sym c.take_one.ensures.there ∙ c.if-not-take_one.false) in
    counted_less was.in_all was.all (get bytes_eq was.counts) (get bytes_eq c.take_one.new.table) these there _ c.self.invariant there' some c.take_one.ensures.less

pub returns-clause-gone : goal.returns-clause-gone
returns-clause-gone c =
    let was = c.self.inside in
    let there = there_after [] was.history.items in
    let present : List (List ℕ) → Connections = λ l. record { in_all = was.in_all; present = l } in
    rw (← c.self.view_is)
    (ap present
    (ap (there_after []) c.and-self-inside.ensures ∙ there_after-append [] was.history.items c.segments_of-segments.result false
    ∙ ap (λ one. without_first one there) c.segments_of-segments.ensures))

pub returns-clause-undone : goal.returns-clause-undone
returns-clause-undone c = λ before is. returns-clause-gone c ∙ ap (without c.args.address) is ∙ without-with_one c.args.address before
