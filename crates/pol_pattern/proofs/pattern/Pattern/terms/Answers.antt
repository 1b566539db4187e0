use Rattle.std.specs.Arc.{arc_value}
use Rattle.pol_pattern.specs.declared.version.Version.TheVariants.{Two}
use Rattle.pol_pattern.specs.Flat.{terms_value}
use Rattle.pol_pattern.proofs.Soundness.{reading_spells}
use Rattle.pol_pattern.proofs.Held.{spells_one}
use Rattle.pol_pattern.proofs.HeldTexts.{match_law}
use Rattle.pol_pattern.proofs.pattern.Pattern.terms.Goals as goal

pub returns-clause-spelled : goal.returns-clause-spelled
returns-clause-spelled c =
    let whole = arc_value c.self.inside.whole in
    rw (c.deref-2.ensures.value, c.deref.ensures, ← c.self.view_is)
    (reading_spells Two whole.source (terms_value whole.terms.items) c.self.invariant)

pub returns-clause-only : goal.returns-clause-only
returns-clause-only c = λ flat spelled.
    let whole = arc_value c.self.inside.whole in
    let own = terms_value whole.terms.items in
    rw (c.deref-2.ensures.value, c.deref.ensures)
    (spells_one Two whole.source flat own (rw (← c.self.view_is) at spelled) (reading_spells Two whole.source own c.self.invariant))

pub returns-clause-law : goal.returns-clause-law
returns-clause-law c = match_law
