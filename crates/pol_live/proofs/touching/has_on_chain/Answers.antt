use Rattle.std.proofs.Common.{◌≡◌, ◌<◌, ◌≤◌, ◌-◌, ◌+◌, ◌||◌, true, false, [], None, Some, Bool, sym, ap, ◌∙◌, arith, refl}
use Rattle.std.specs.List.{list_any}
use Rattle.std.specs.Option.{option_map_or}
use Rattle.pol_text.specs.Policy.{chain_within, parent_of}
use Rattle.pol_live.specs.Renewing.{is_among}
use Rattle.pol_live.proofs.RenewFacts.{any_step, any_none}
use Rattle.pol_live.proofs.touching.has_on_chain.Goals as goal

pub returns-then-is_among : goal.returns-then-is_among
returns-then-is_among c =
    let test = is_among c.args.ids.now in
    let left : c.chain.counter < 8 = omega arith in
    let step = any_step test c.args.policy.now c.chain.present.now c.chain.counter (parent_of c.args.policy.now c.chain.present.now) left refl in
    let here : test c.chain.present.now ≡ true = sym c.is_among.ensures ∙ c.if-is_among.true in
    sym (sym c.chain.invariant ∙ step ∙ ap (λ (b : Bool). b || list_any test (option_map_or (chain_within (8 - (c.chain.counter + 1)) c.args.policy.now) (parent_of c.args.policy.now c.chain.present.now) [])) here)

pub returns-in-None : goal.returns-in-None
returns-in-None c =
    let test = is_among c.args.ids.now in
    let left : c.chain.counter < 8 = omega arith in
    let step = any_step test c.args.policy.now c.chain.present.now c.chain.counter None left (sym c.in-None.ensures.found) in
    let here : test c.chain.present.now ≡ false = sym c.is_among.ensures ∙ c.if-is_among.false in
    sym (sym c.chain.invariant ∙ step ∙ ap (λ (b : Bool). b || false) here)

pub chain-preserved : goal.chain-preserved
chain-preserved c =
    let test = is_among c.args.ids.now in
    let left : c.chain.counter < 8 = omega arith in
    let step = any_step test c.args.policy.now c.chain.present.now c.chain.counter (Some c.in-Some.group.now) left (sym c.in-Some.ensures.found) in
    let here : test c.chain.present.now ≡ false = sym c.is_among.ensures ∙ c.if-is_among.false in
    sym (step ∙ ap (λ (b : Bool). b || list_any test (chain_within (8 - (c.chain.counter + 1)) c.args.policy.now c.in-Some.group.now)) here) ∙ c.chain.invariant

pub returns : goal.returns
returns c =
    let past : 8 ≤ c.chain.counter = omega arith in
    sym (sym c.chain.invariant ∙ any_none (is_among c.args.ids.now) c.args.policy.now c.chain.present.now c.chain.counter past)
