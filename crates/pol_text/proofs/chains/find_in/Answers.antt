use Rattle.std.proofs.Common.{sym, ap, ◌∙◌}
use Rattle.std.specs.List.{position}
use Rattle.pol_names.specs.SubjectId.{same_id}
use Rattle.pol_text.proofs.SubjectFacts.{got, found_at, found_nowhere}
use Rattle.pol_text.proofs.chains.find_in.Goals as goal

pub returns-in_default : goal.returns-in_default
returns-in_default c =
    let at = sym (ap (position (same_id c.args.id.now)) c.requires) ∙ sym c.get_index_of.ensures.index ∙ c.in_default.is in
    sym (found_nowhere c.args.id.now c.args.subjects.now at)

pub returns : goal.returns
returns c =
    let at = sym (ap (position (same_id c.args.id.now)) c.requires) ∙ sym c.get_index_of.ensures.index ∙ c.in-Some.is in
    got c.get.result c.as_slice.result.now c.in-Some.place c.get.ensures.lookup.0 c.get.ensures.lookup.1 ∙ rw c.as_slice.ensures (sym (found_at c.args.id.now c.args.subjects.now c.in-Some.place at))
