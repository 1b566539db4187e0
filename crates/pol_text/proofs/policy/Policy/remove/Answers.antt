use Rattle.std.proofs.Common.{sym, subst₂, ◌∙◌}
use Rattle.pol_text.proofs.Placed.{AreFields, placed, within, not_nowhere}
use Rattle.pol_text.proofs.KeepsRemove.{removed_now, fields_removed}
use Rattle.pol_text.proofs.policy.Policy.remove.Goals as goal

pub returns-in_default-clause-removed : goal.returns-in_default-clause-removed
returns-in_default-clause-removed c =
    not_nowhere c.args.id.now c.args.self.now c.self.inside.subjects c.self.inside.places.keys c.self.view_is c.self.invariant (sym c.place_of.ensures ∙ c.in_default.is) c.requires.there

pub remove-requires : goal.remove-requires
remove-requires c = within c.args.id.now c.self.inside.subjects c.self.inside.places.keys c.in-Some.place c.self.invariant (sym c.place_of.ensures ∙ c.in-Some.is)

pub invariant_of-self : goal.invariant_of-self
invariant_of-self c =
    let h = placed c.args.id.now c.args.self.now c.self.inside.subjects c.self.inside.places.keys c.in-Some.place c.remove.result c.self.view_is c.self.invariant
    (sym c.place_of.ensures ∙ c.in-Some.is) (sym c.remove.ensures.item) in
    subst₂ AreFields (sym c.remove.ensures.rest) (sym c.shift_remove_index.ensures.keys) (fields_removed h c.requires.unused)

pub returns-clause-removed : goal.returns-clause-removed
returns-clause-removed c =
    let h = placed c.args.id.now c.args.self.now c.self.inside.subjects c.self.inside.places.keys c.in-Some.place c.remove.result c.self.view_is c.self.invariant
    (sym c.place_of.ensures ∙ c.in-Some.is) (sym c.remove.ensures.item) in
    c.remove.ensures.rest ∙ removed_now h

pub returns-clause-well_formed : goal.returns-clause-well_formed
returns-clause-well_formed c = (invariant_of-self c).0
