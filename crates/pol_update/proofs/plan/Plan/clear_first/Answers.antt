use Rattle.std.proofs.Common.{◌≡◌, List, [], ◌∷◌, Some, slice_get, sym, ap, ◌∙◌}
use Rattle.pol_names.specs.declared.service.ServiceLine.{ServiceLine}
use Rattle.pol_text.specs.Policy.{find_subject}
use Rattle.pol_update.proofs.Takes.{first_turned}
use Rattle.pol_update.proofs.plan.Plan.clear_first.Goals as goal

first_is : (lines : List ServiceLine) (line : ServiceLine) → Some line ≡ slice_get lines 0 → (rest : List ServiceLine) × (lines ≡ line ∷ rest)
first_is [] line e = absurd cc
first_is (x ∷ rest) line e = (rest, let same : x ≡ line = cc in ap (λ (l : ServiceLine). l ∷ rest) same)

pub returns : goal.returns
returns c =
    let found : find_subject c.args.id.now c.args.self.now.made ≡ Some c.in-Some.present.now = sym (rw c.in-Some.is at c.find.ensures.found) in
    let first = first_is c.in-Some.present.now.services c.in-Some-first.line.now (c.in-Some-first.ensures.value ∙ ap (λ (l : List ServiceLine). slice_get l 0) c.as_slice.ensures) in
    first_turned c.add.result c.args.id.now c.in-Some-first.line.now first.0 c.in-Some.present.now c.args.self.now c.add.new.self c.find.ensures.well_formed found first.1 c.add.ensures.added
