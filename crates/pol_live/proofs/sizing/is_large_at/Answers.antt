use Rattle.std.proofs.lemmas.Bool.{false≢true}
use Rattle.pol_text.specs.Policy.{ends_within}
use Rattle.pol_live.proofs.FillFacts.{all_at, small_there}
use Rattle.pol_live.proofs.sizing.is_large_at.Goals as goal

pub fill-requires-clause-ends : goal.fill-requires-clause-ends
fill-requires-clause-ends c subject here = all_at (ends_within 8 c.args.policy.now) c.args.policy.now c.args.index subject c.requires.well_formed.short here

pub returns-in-Ok-clause-large : goal.returns-in-Ok-clause-large
returns-in-Ok-clause-large c = (
  λ is. absurd (false≢true is),
  λ more. absurd (small_there c.args.policy.now c.fill.new.parts c.args.index c.args.subject.now c.in-Ok.ensures.right c.requires.here c.in-Ok.ensures.there more),
)
