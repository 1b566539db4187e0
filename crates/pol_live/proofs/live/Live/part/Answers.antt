use Rattle.std.proofs.Common.{◌≡◌, Some, None, sym, ap, ◌∙◌}
use Rattle.std.specs.Option.{option_copied}
use Rattle.pol_live.specs.Kept.{slot}
use Rattle.pol_live.proofs.SlotFacts.{all_there, subject_there}
use Rattle.pol_live.proofs.live.Live.part.Goals as goal

pub returns-in_default-lookup-clause-none : goal.returns-in_default-lookup-clause-none
returns-in_default-lookup-clause-none c =
    let inside = c.self.inside in
    let none : slot inside.parts.wholes c.in-Some.index ≡ None = sym c.lookup.ensures ∙ ap option_copied c.in_default-lookup.is in
    rw (← c.self.view_is) (c.in-Some.ensures.found ∙ all_there inside.policy inside.parts c.in-Some.index c.self.invariant.1 none)

pub returns-clause-right : goal.returns-clause-right
returns-clause-right c subject here =
    let inside = c.self.inside in
    let there : slot inside.parts.wholes c.in-Some.index ≡ Some c.decider.result.now = sym c.lookup.ensures ∙ ap option_copied c.in-Some-lookup.is ∙ ap Some (sym c.decider.ensures) in
    rw (← c.self.view_is) (c.self.invariant.0.wholes c.in-Some.index subject c.decider.result.now (rw c.self.view_is here) there).0

pub returns-clause-there : goal.returns-clause-there
returns-clause-there c =
    let inside = c.self.inside in
    let there : slot inside.parts.wholes c.in-Some.index ≡ Some c.decider.result.now = sym c.lookup.ensures ∙ ap option_copied c.in-Some-lookup.is ∙ ap Some (sym c.decider.ensures) in
    rw (← c.self.view_is) (subject_there inside.policy inside.parts c.in-Some.index c.decider.result.now c.self.invariant.0 there)
