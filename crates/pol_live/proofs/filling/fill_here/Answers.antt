use Rattle.std.proofs.Common.{◌<◌, ◌||◌, Bool, List, length, Option, Err, OnOk, IfSome, IsTrue, is_some, not, sym, subst, ap, ◌∙◌, arith}
use Rattle.std.proofs.lemmas.Option.{slice_get_within}
use Rattle.std.proofs.lemmas.Result.{err_from_is_err_and}
use Rattle.pol_automaton.specs.Automaton.{Automaton}
use Rattle.pol_live.specs.Kept.{AreParts, Grows, slot, has_rules}
use Rattle.pol_live.proofs.SlotFacts.{own_put, grows_on}
use Rattle.pol_live.proofs.FillFacts.{whole_filled, whole_large, large_own, ok_so, ok_so2, right_so, not_there, one_there, joined_is}
use Rattle.pol_live.proofs.MeterFacts.{whole_counts}
use Rattle.pol_live.proofs.filling.fill_here.Goals as goal
use Rattle.pol_live.proofs.filling.fill_here.Goals.{After-fill_whole}

pub returns-in_err-fill_own-clause-too_many : goal.returns-in_err-fill_own-clause-too_many
returns-in_err-fill_own-clause-too_many c is =
    let p = err_from_is_err_and c.from_residual.result c.from_residual.ensures.1 in
    large_own c.args.policy.now c.args.subject.now c.requires.inherits (c.in_err-fill_own.ensures.too_many (ap Err (sym p.2) ∙ sym p.1 ∙ is))

pub returns-then-is_some-clause-right : goal.returns-then-is_some-clause-right
returns-then-is_some-clause-right c =
    (own_put c.args.policy.now c.args.index c.args.subject.now c.requires.here c.args.parts.now c.fill_own.new.parts c.requires.right
    c.in_ok-fill_own.ensures.wholes c.in_ok-fill_own.ensures.owns c.in_ok-fill_own.ensures.keeper).0

pub returns-then-is_some-clause-grows : goal.returns-then-is_some-clause-grows
returns-then-is_some-clause-grows c =
    (own_put c.args.policy.now c.args.index c.args.subject.now c.requires.here c.args.parts.now c.fill_own.new.parts c.requires.right
    c.in_ok-fill_own.ensures.wholes c.in_ok-fill_own.ensures.owns c.in_ok-fill_own.ensures.keeper).1

pub fill_whole-requires-clause-within : goal.fill_whole-requires-clause-within
fill_whole-requires-clause-within c =
    let within = slice_get_within c.args.policy.now c.args.index c.args.subject.now c.requires.here in
    let mid =
    own_put c.args.policy.now c.args.index c.args.subject.now c.requires.here c.args.parts.now c.fill_own.new.parts c.requires.right
    c.in_ok-fill_own.ensures.wholes c.in_ok-fill_own.ensures.owns c.in_ok-fill_own.ensures.keeper in
    let many = mid.0.many_wholes in
    omega arith

-- with the subject's own automaton
mid : (c : After-fill_whole) → AreParts c.args.policy.now c.fill_own.new.parts × Grows c.args.parts.now c.fill_own.new.parts
mid c =
    own_put c.args.policy.now c.args.index c.args.subject.now c.requires.here c.args.parts.now c.fill_own.new.parts c.requires.right
    c.in_ok-fill_own.ensures.wholes c.in_ok-fill_own.ensures.owns c.in_ok-fill_own.ensures.keeper

above : (c : After-fill_whole) → IfSome c.args.parent (λ at. IsTrue (is_some (slot c.fill_own.new.parts.wholes at)))
above c = subst (λ (ws : List (Option Automaton)). IfSome c.args.parent (λ at. IsTrue (is_some (slot ws at)))) (sym c.in_ok-fill_own.ensures.wholes) c.requires.above

filled : (c : After-fill_whole) → OnOk c.fill_whole.result
    (AreParts c.args.policy.now c.fill_whole.new.parts × Grows c.fill_own.new.parts c.fill_whole.new.parts × IsTrue (is_some (slot c.fill_whole.new.parts.wholes c.args.index)))
filled c =
    let none = not_there c.lookup.result (slot c.fill_own.new.parts.wholes c.args.index) c.lookup.ensures (sym c.is_some.ensures ∙ c.if-is_some.false) in
    whole_filled c.args.policy.now c.args.index c.args.subject.now c.requires.here c.requires.inherits c.args.parent c.requires.found c.requires.within
    c.fill_own.new.parts (mid c).0 (not (is_some c.args.subject.now.parent)) c.in_ok-fill_own.ensures.there (above c) c.fill_whole.result c.fill_whole.new.parts none
    c.fill_whole.ensures.owns c.fill_whole.ensures.wholes

pub returns-clause-right : goal.returns-clause-right
returns-clause-right c = right_so c.args.policy.now c.fill_whole.result c.fill_own.new.parts c.fill_whole.new.parts (mid c).0 c.fill_whole.ensures.same (ok_so c.fill_whole.result (λ h. h.0) (filled c))

pub returns-clause-grows : goal.returns-clause-grows
returns-clause-grows c = ok_so c.fill_whole.result (λ h. grows_on c.args.parts.now c.fill_own.new.parts c.fill_whole.new.parts (mid c).1 h.1) (filled c)

pub returns-clause-there : goal.returns-clause-there
returns-clause-there c = ok_so c.fill_whole.result (λ h. h.2) (filled c)

pub returns-clause-too_many : goal.returns-clause-too_many
returns-clause-too_many c is =
    whole_large c.args.policy.now c.args.index c.args.subject.now c.requires.here c.requires.inherits c.args.parent c.requires.found c.requires.within
    c.fill_own.new.parts (mid c).0 (not (is_some c.args.subject.now.parent)) c.in_ok-fill_own.ensures.there (above c) (λ first rest h k. c.fill_whole.ensures.too_many first rest h k is)

pub fill_whole-requires-clause-some : goal.fill_whole-requires-clause-some
fill_whole-requires-clause-some c =
    let there = subst (λ (ws : List (Option Automaton)). IfSome c.args.parent (λ at. IsTrue (is_some (slot ws at)))) (sym c.in_ok-fill_own.ensures.wholes) c.requires.above in
    one_there c.fill_own.new.parts c.args.index c.args.parent (has_rules c.args.subject.now)
    (λ h. c.in_ok-fill_own.ensures.there (ap (λ (b : Bool). has_rules c.args.subject.now || not b) (sym c.requires.grouped) ∙ h)) there

pub returns-clause-counts : goal.returns-clause-counts
returns-clause-counts c =
    let policy = c.args.policy.now in
    let subject = c.args.subject.now in
    let none = not_there c.lookup.result (slot c.fill_own.new.parts.wholes c.args.index) c.lookup.ensures (sym c.is_some.ensures ∙ c.if-is_some.false) in
    let first = c.in_ok-fill_own.ensures.counts policy c.requires.here in
    let joins = joined_is policy c.fill_own.new.parts c.args.index subject c.args.parent (mid c).0 c.requires.here c.in_ok-fill_own.ensures.there c.requires.grouped (above c) in
    let many = (mid c).0.many_wholes in
    let inside = slice_get_within policy c.args.index subject c.requires.here in
    let within : c.args.index < length c.fill_own.new.parts.wholes = omega arith in
    ok_so2 c.fill_whole.result
    (λ put owns. whole_counts policy c.args.index subject c.args.parts.now c.fill_own.new.parts c.fill_whole.new.parts c.args.meter.now.total c.fill_own.new.meter.total c.fill_whole.new.meter.total
    c.requires.here none within c.in_ok-fill_own.ensures.wholes first _ joins put owns)
    c.fill_whole.ensures.raised c.fill_whole.ensures.owns
