use Rattle.std.proofs.Common.{refl, sym, ap, ◌∙◌}
use Rattle.std.specs.List.{position}
use Rattle.pol_names.specs.SubjectId.{same_id}
use Rattle.pol_text.proofs.SubjectFacts.{place_is, found_at, found_nowhere}
use Rattle.pol_text.proofs.chains.find_mut.Goals as goal

pub returns-in_default : goal.returns-in_default
returns-in_default c =
    let at = sym (ap (position (same_id c.args.id.now)) c.requires) ∙ sym c.get_index_of.ensures.index ∙ c.in_default.is in
    (refl, record { writes_back = tt; found = sym (found_nowhere c.args.id.now c.args.subjects.now at) })

pub returns : goal.returns
returns c =
    let at = sym c.get_index_of.ensures.index ∙ c.in-Some.is in
    let here = sym (ap (position (same_id c.args.id.now)) c.requires) ∙ at in
    rw (place_is c.args.id.now c.args.places.now.keys c.in-Some.place at)
    (refl, record { writes_back = tt; found = c.get_mut.ensures.item ∙ sym (found_at c.args.id.now c.args.subjects.now c.in-Some.place here) })
