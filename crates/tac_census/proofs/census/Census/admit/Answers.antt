use Rattle.std.proofs.Common.{◌≡◌, ◌<◌, ◌+◌, cond, List, [], ◌∷◌, ℕ, Some, true, count_by, ◌≤◌, ap, sym, subst, ◌∙◌, arith}
use Rattle.std.specs.Map.{lookup}
use Rattle.std.specs.Str.{bytes_eq}
use Rattle.std.specs.HashMap.{get}
use Rattle.tac_census.specs.Census.{Connections, count_of, with_one}
use Rattle.tac_census.specs.Counting.{connections_of, there_after, AreCounted, looked_up}
use Rattle.tac_census.proofs.CountFacts.{there_after-append, looked_up-entry_of, counted_more, count_of-with_one}
use Rattle.tac_census.proofs.census.Census.admit.Goals.{else-most-ne0-via-then-most-ne0+else-most-count, else-most-ne0-via-else-most-ne0}
use Rattle.tac_census.proofs.census.Census.admit.Goals as goal

pub invariant_of-self : goal.invariant_of-self
invariant_of-self c =
    let was = c.self.inside in
    subst (λ entries. AreCounted was.in_all was.all (λ one. lookup (bytes_eq one) entries) (there_after [] was.history.items)) (sym c.in-Err.ensures.err) c.self.invariant

pub returns-in-Err-clause-memory : goal.returns-in-Err-clause-memory
returns-in-Err-clause-memory c = λ _.
    let was : Connections = connections_of c.self.inside in
    rw (← c.self.view_is)
    (ap (λ one. count_by (bytes_eq one) was.present) (sym c.segments_of-segments.ensures)
    ∙ sym (looked_up-entry_of _) ∙ sym (ap looked_up (c.self.invariant.entries c.segments_of-segments.result)) ∙ ap looked_up c.in-Err.ensures.absent)

pub invariant_of-self-2 : goal.invariant_of-self-2
invariant_of-self-2 c =
    let was = c.self.inside in
    let there = there_after [] was.history.items in
    let these = c.segments_of-segments.result in
    let many : c.of-count.result ≡ count_by (bytes_eq these) there =
    c.of-count.ensures.many ∙ ap (count_of c.args.address) (sym c.self.view_is) ∙ ap (λ one. count_by (bytes_eq one) there) (sym c.segments_of-segments.ensures) in
    let there' = ap (there_after []) c.and-self-inside.ensures ∙ there_after-append [] was.history.items these true in
    counted_more was.in_all was.all (get bytes_eq was.counts) (get bytes_eq c.insert.new.self) these there _ c.self.invariant there' c.if-self.false
    (λ others. c.in_default.ensures.updates.0 others ∙ ap (λ n. cond (bytes_eq these others) (Some (n + 1)) (get bytes_eq was.counts others)) many)

pub returns-clause-ok : goal.returns-clause-ok
returns-clause-ok c =
    let was = c.self.inside in
    let there = there_after [] was.history.items in
    let present : List (List ℕ) → Connections = λ l. record { in_all = was.in_all; present = l } in
    rw (← c.self.view_is)
    (ap present
    (ap (there_after []) c.and-self-inside.ensures ∙ there_after-append [] was.history.items c.segments_of-segments.result true
    ∙ ap (λ one. one ∷ there) c.segments_of-segments.ensures))

pub returns-clause-within : goal.returns-clause-within
returns-clause-within c = λ some.
    let was = c.args.self.now in
    let one : count_of c.args.address (with_one c.args.address was) ≡ 1 + count_of c.args.address was = count_of-with_one c.args.address was in
    let room : count_of c.args.address was < c.args.most = elim c.else-most-ne0.branch [
      | else-most-ne0-via-then-most-ne0+else-most-count w ↦ omega (arith, c.of-count.ensures.many, w.if-most-count.false)
      | else-most-ne0-via-else-most-ne0 w ↦ absurd (omega (arith, w.if-most-ne0.false))
    ] in
    subst (λ (now : Connections). count_of c.args.address now ≤ c.args.most) (sym (returns-clause-ok c)) (omega (arith, one, room))
