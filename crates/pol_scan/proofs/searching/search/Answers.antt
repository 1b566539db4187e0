-- The empty word is accepted, or the rows are followed from the first state on.
use Rattle.std.proofs.Common.{[], Option, Some, None, Result, Ok, Err, refl, sym, ◌∙◌, subst, true≢false}
use Rattle.std.specs.Prelude.{IfOk, IfSome, IfNone}
use Rattle.pol_scan.specs.Words.{word_at}
use Rattle.pol_scan.proofs.Finding.{led_at}
use Rattle.pol_scan.proofs.Classes.{numbers_now}
use Rattle.pol_scan.proofs.Seeking.{least_before, least_empty, seeks_first, accepted_now}
use Rattle.pol_scan.proofs.searching.search.Goals as goal

some_too : {X E : Type 0} (r : Result (Option X) E) (P Q : X → Type 0) → ((x : X) → P x → Q x) → IfOk r (λ o. IfSome o P) → IfOk r (λ o. IfSome o Q)
some_too (Ok (Some x)) P Q f h = f x h
some_too (Ok None) P Q f h = h
some_too (Err e) P Q f h = h

none_too : {X E P Q : Type 0} (r : Result (Option X) E) → (P → Q) → IfOk r (λ o. IfNone o P) → IfOk r (λ o. IfNone o Q)
none_too (Ok (Some x)) f h = h
none_too (Ok None) f h = f h
none_too (Err e) f h = h

pub returns-then-accepts-clause-least : goal.returns-then-accepts-clause-least
returns-then-accepts-clause-least g c =
    let now = c.begin.new.machine in
    let grows = c.in_ok-found.ensures.grows in
    let there = led_at _ _ _ (g.met.A.Machine.tells now) _ _ c.in_ok-found.ensures.found 0 c.state.result.now c.state.ensures in
    let yields : g.A.Acceptor.accepted now [] = subst (λ ws. g.A.Acceptor.accepted now (word_at ws 0)) c.in_ok-found.ensures.first
    ((c.accepts.ensures (word_at c.in_ok-found.found.words 0) there).0 c.if-accepts.true) in
    least_before _ _ _ _ (g.met.A.Machine.keeps c.args.machine.now now grows) _ _ (g.met.A.Acceptor.stays c.args.machine.now now grows) _ [] c.new.ensures.items
    (least_empty (g.A.Machine.congruence now) (g.A.Acceptor.accepted now) yields)

pub seek-requires-clause-bound : goal.seek-requires-clause-bound
seek-requires-clause-bound g c =
    let now = c.begin.new.machine in
    numbers_now _ _ _ _ (g.met.A.Machine.keeps c.args.machine.now now c.in_ok-found.ensures.grows) c.args.bound c.requires

pub seek-requires-clause-width : goal.seek-requires-clause-width
seek-requires-clause-width g c =
    let keeps = g.met.A.Machine.keeps c.args.machine.now c.begin.new.machine c.in_ok-found.ensures.grows in
    c.width-width.ensures ∙ sym keeps.columns

pub seek-requires-clause-seeks : goal.seek-requires-clause-seeks
seek-requires-clause-seeks g c =
    let now = c.begin.new.machine in
    let known = c.in_ok-found.ensures in
    let there = led_at _ _ _ (g.met.A.Machine.tells now) _ _ known.found 0 c.state.result.now c.state.ensures in
    seeks_first _ _ (g.A.Acceptor.accepted now) _ _ known.found known.after known.first
    (λ h. true≢false (sym ((c.accepts.ensures (word_at c.in_ok-found.found.words 0) there).1
    (subst (λ ws. g.A.Acceptor.accepted now (word_at ws 0)) (sym known.first) h)) ∙ c.if-accepts.false))

pub returns-clause-least : goal.returns-clause-least
returns-clause-least g c =
    let now = c.begin.new.machine in
    let grows = c.in_ok-found.ensures.grows in
    some_too c.seek.result _ _ (λ word. least_before _ _ _ _ (g.met.A.Machine.keeps c.args.machine.now now grows) _ _
    (g.met.A.Acceptor.stays c.args.machine.now now grows) word.items word.items refl) c.seek.ensures.least

pub returns-clause-none : goal.returns-clause-none
returns-clause-none g c =
    let now = c.begin.new.machine in
    let grows = c.in_ok-found.ensures.grows in
    none_too c.seek.result (λ no word a. no word (accepted_now _ _ _ _ (g.met.A.Machine.keeps c.args.machine.now now grows) _ _
    (g.met.A.Acceptor.stays c.args.machine.now now grows) word a)) c.seek.ensures.none

pub returns-clause-grows : goal.returns-clause-grows
returns-clause-grows g c = g.met.A.Machine.transitive c.args.machine.now c.begin.new.machine c.seek.new.machine c.in_ok-found.ensures.grows c.seek.ensures.grows
