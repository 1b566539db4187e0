use Rattle.std.proofs.Common.{◌≡◌, ◌<◌, ◌≤◌, ◌-◌, Option, [], None, Some, refl, sym, ap, ◌∙◌, arith, slice_get}
use Rattle.std.specs.Option.{option_map, option_map_or, option_copied, option_and_then}
use Rattle.pol_text.specs.declared.subject.Subject.{Subject}
use Rattle.pol_text.specs.Policy.{parent_of, chain_within, entries_along}
use Rattle.pol_live.specs.ChainRules.{chain_rule as rule_of}
use Rattle.pol_live.proofs.PlaceFacts.{got, place_here, place_later, place_none}
use Rattle.pol_live.proofs.along.chain_rule.Goals as goal

pub chain-init : goal.chain-init
chain-init c its here = sym (ap (λ (o : Option Subject). slice_get (entries_along (option_map_or (chain_within 8 c.args.policy.now) o [])) c.args.place) here)

pub returns-in_default : goal.returns-in_default
returns-in_default c its here =
    let none : slice_get c.args.policy.now c.chain.at ≡ None = sym c.in_default.ensures.found in
    sym (ap (option_map rule_of) (c.chain.invariant its here ∙ ap (λ (o : Option Subject). slice_get (entries_along (option_map_or (chain_within (8 - c.chain.counter) c.args.policy.now) o [])) c.chain.left) none))

pub returns-in-Some-get : goal.returns-in-Some-get
returns-in-Some-get c its here =
    let policy = c.args.policy.now in
    let present = c.in-Some.present.now in
    let left : c.chain.counter < 8 = omega arith in
    let there : slice_get policy c.chain.at ≡ Some present = sym c.in-Some.ensures.found in
    let at : slice_get present.rules c.chain.left ≡ Some c.in-Some-get.rule.now =
    rw (← c.as_slice.ensures) (sym (got c.get.result c.as_slice.result.now c.chain.left c.get.ensures.lookup.0 c.get.ensures.lookup.1) ∙ ap option_copied c.in-Some-get.is) in
    let own = place_here policy present c.chain.counter (parent_of policy present) c.chain.left c.in-Some-get.rule.now left refl at in
    rw c.id.ensures (sym (ap (option_map rule_of) (c.chain.invariant its here
    ∙ ap (λ (o : Option Subject). slice_get (entries_along (option_map_or (chain_within (8 - c.chain.counter) policy) o [])) c.chain.left) there ∙ own)))

pub returns-in-None : goal.returns-in-None
returns-in-None c its here =
    let policy = c.args.policy.now in
    let present = c.in-Some.present.now in
    let left : c.chain.counter < 8 = omega arith in
    let there : slice_get policy c.chain.at ≡ Some present = sym c.in-Some.ensures.found in
    let at : slice_get present.rules c.chain.left ≡ None =
    rw (← c.as_slice.ensures) (sym (got c.get.result c.as_slice.result.now c.chain.left c.get.ensures.lookup.0 c.get.ensures.lookup.1) ∙ ap option_copied c.in_default-get.is) in
    let above : parent_of policy present ≡ None = sym (c.requires c.chain.at present there) ∙ ap (option_and_then (slice_get policy)) (sym c.in-None.ensures) in
    let later = place_later policy present c.chain.counter None c.chain.left left above at in
    sym (ap (option_map rule_of) (c.chain.invariant its here
    ∙ ap (λ (o : Option Subject). slice_get (entries_along (option_map_or (chain_within (8 - c.chain.counter) policy) o [])) c.chain.left) there ∙ later))

pub chain-preserved : goal.chain-preserved
chain-preserved c its here =
    let policy = c.args.policy.now in
    let present = c.in-Some.present.now in
    let left : c.chain.counter < 8 = omega arith in
    let there : slice_get policy c.chain.at ≡ Some present = sym c.in-Some.ensures.found in
    let at : slice_get present.rules c.chain.left ≡ None =
    rw (← c.as_slice.ensures) (sym (got c.get.result c.as_slice.result.now c.chain.left c.get.ensures.lookup.0 c.get.ensures.lookup.1) ∙ ap option_copied c.in_default-get.is) in
    let above : parent_of policy present ≡ slice_get policy c.in-Some-parent_at.group = sym (c.requires c.chain.at present there) ∙ ap (option_and_then (slice_get policy)) (sym c.in-Some-parent_at.ensures) in
    let later = place_later policy present c.chain.counter _ c.chain.left left above at in
    c.chain.invariant its here
    ∙ ap (λ (o : Option Subject). slice_get (entries_along (option_map_or (chain_within (8 - c.chain.counter) policy) o [])) c.chain.left) there ∙ later ∙ rw c.len-left.ensures refl

pub returns : goal.returns
returns c its here =
    let past : 8 ≤ c.chain.counter = omega arith in
    sym (ap (option_map rule_of) (c.chain.invariant its here ∙ place_none c.args.policy.now (slice_get c.args.policy.now c.chain.at) c.chain.counter c.chain.left past))
