use Rattle.std.proofs.Common.{sym, ap, subst, ◌∙◌, List}
use Rattle.pol_text.specs.declared.subject.Subject.{Subject}
use Rattle.pol_text.specs.Change.{with_parent, chain_fault}
use Rattle.pol_text.proofs.Placed.{AreFields, within, not_nowhere}
use Rattle.pol_text.proofs.KeepsParent.{the_placed, within_changed, back_again, parent_changed, keys_changed, fields_changed}
use Rattle.pol_text.proofs.DepthFacts.{tells_endless}
use Rattle.pol_text.proofs.policy.Policy.set_parent.Goals as goal

pub returns-in_default-clause-fault : goal.returns-in_default-clause-fault
returns-in_default-clause-fault c =
    not_nowhere c.args.id.now c.args.self.now c.self.inside.subjects c.self.inside.places.keys c.self.view_is c.self.invariant (sym c.place_of.ensures ∙ c.in_default.is) c.requires.there

pub returns-in_default-clause-ok : goal.returns-in_default-clause-ok
returns-in_default-clause-ok c =
    not_nowhere c.args.id.now c.args.self.now c.self.inside.subjects c.self.inside.places.keys c.self.view_is c.self.invariant (sym c.place_of.ensures ∙ c.in_default.is) c.requires.there

pub put_parent-former-requires : goal.put_parent-former-requires
put_parent-former-requires c =
    within c.args.id.now c.self.inside.subjects c.self.inside.places.keys c.in-Some.place c.self.invariant (sym c.place_of.ensures ∙ c.in-Some.is)

pub chain_fault_of-requires : goal.chain_fault_of-requires
chain_fault_of-requires c =
    let h = the_placed c.args.id.now c.args.self.now c.self.inside.subjects c.self.inside.places.keys c.in-Some.place c.self.view_is c.self.invariant
    (sym c.place_of.ensures ∙ c.in-Some.is) c.requires.there in
    keys_changed h.1 c.args.parent c.put_parent-former.new.subjects c.put_parent-former.ensures.changed

pub put_parent-requires : goal.put_parent-requires
put_parent-requires c =
    within_changed (with_parent c.args.parent) c.self.inside.subjects c.put_parent-former.new.subjects c.in-Some.place c.put_parent-former.ensures.changed
    (within c.args.id.now c.self.inside.subjects c.self.inside.places.keys c.in-Some.place c.self.invariant (sym c.place_of.ensures ∙ c.in-Some.is))

pub invariant_of-self : goal.invariant_of-self
invariant_of-self c =
    subst (λ (l : List Subject). AreFields l c.self.inside.places.keys) (sym (back_again c.args.self.now c.self.inside.subjects c.put_parent-former.new.subjects c.put_parent.new.subjects c.in-Some.place c.args.parent c.put_parent-former.result c.self.view_is c.put_parent-former.ensures.changed (sym c.put_parent-former.ensures.former) c.put_parent.ensures.changed)) c.self.invariant

pub returns-in-Some-chain_fault_of-clause-fault : goal.returns-in-Some-chain_fault_of-clause-fault
returns-in-Some-chain_fault_of-clause-fault c =
    let h = the_placed c.args.id.now c.args.self.now c.self.inside.subjects c.self.inside.places.keys c.in-Some.place c.self.view_is c.self.invariant
    (sym c.place_of.ensures ∙ c.in-Some.is) c.requires.there in
    sym c.in-Some-chain_fault_of.is ∙ c.chain_fault_of.ensures ∙ ap chain_fault (parent_changed h.1 c.args.parent c.put_parent-former.new.subjects c.put_parent-former.ensures.changed)

pub returns-in-Some-chain_fault_of-clause-err : goal.returns-in-Some-chain_fault_of-clause-err
returns-in-Some-chain_fault_of-clause-err c =
    back_again c.args.self.now c.self.inside.subjects c.put_parent-former.new.subjects c.put_parent.new.subjects c.in-Some.place c.args.parent c.put_parent-former.result c.self.view_is c.put_parent-former.ensures.changed (sym c.put_parent-former.ensures.former) c.put_parent.ensures.changed ∙ c.self.view_is

pub invariant_of-self-in_default-chain_fault_of : goal.invariant_of-self-in_default-chain_fault_of
invariant_of-self-in_default-chain_fault_of c =
    let h = the_placed c.args.id.now c.args.self.now c.self.inside.subjects c.self.inside.places.keys c.in-Some.place c.self.view_is c.self.invariant
    (sym c.place_of.ensures ∙ c.in-Some.is) c.requires.there in
    fields_changed h.1 c.args.parent c.put_parent-former.new.subjects c.put_parent-former.ensures.changed c.requires.group (sym c.chain_fault_of.ensures ∙ c.in_default-chain_fault_of.is)

pub returns-clause-fault : goal.returns-clause-fault
returns-clause-fault c =
    let h = the_placed c.args.id.now c.args.self.now c.self.inside.subjects c.self.inside.places.keys c.in-Some.place c.self.view_is c.self.invariant
    (sym c.place_of.ensures ∙ c.in-Some.is) c.requires.there in
    sym c.in_default-chain_fault_of.is ∙ c.chain_fault_of.ensures ∙ ap chain_fault (parent_changed h.1 c.args.parent c.put_parent-former.new.subjects c.put_parent-former.ensures.changed)

pub returns-clause-ok : goal.returns-clause-ok
returns-clause-ok c =
    let h = the_placed c.args.id.now c.args.self.now c.self.inside.subjects c.self.inside.places.keys c.in-Some.place c.self.view_is c.self.invariant
    (sym c.place_of.ensures ∙ c.in-Some.is) c.requires.there in
    parent_changed h.1 c.args.parent c.put_parent-former.new.subjects c.put_parent-former.ensures.changed

pub returns-in_default-clause-endless : goal.returns-in_default-clause-endless
returns-in_default-clause-endless c = tells_endless

pub returns-in-Some-chain_fault_of-clause-endless : goal.returns-in-Some-chain_fault_of-clause-endless
returns-in-Some-chain_fault_of-clause-endless c = tells_endless

pub returns-clause-endless : goal.returns-clause-endless
returns-clause-endless c = tells_endless

pub returns-clause-well_formed : goal.returns-clause-well_formed
returns-clause-well_formed c = (invariant_of-self-in_default-chain_fault_of c).0

pub returns-in-Some-chain_fault_of-clause-well_formed : goal.returns-in-Some-chain_fault_of-clause-well_formed
returns-in-Some-chain_fault_of-clause-well_formed c = (invariant_of-self c).0
