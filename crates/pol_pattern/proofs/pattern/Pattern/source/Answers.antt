use Rattle.std.specs.Arc.{arc_value}
use Rattle.pol_pattern.specs.Flat.{terms_value}
use Rattle.pol_pattern.proofs.Laws.{reading_pattern}
use Rattle.pol_pattern.proofs.pattern.Pattern.source.Goals as goal

pub returns-clause-again : goal.returns-clause-again
returns-clause-again c =
    let whole = arc_value c.self.inside.whole in
    rw (← c.self.view_is) (reading_pattern whole.source (terms_value whole.terms.items) c.self.invariant)
