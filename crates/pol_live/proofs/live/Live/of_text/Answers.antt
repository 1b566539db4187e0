use Rattle.std.proofs.Common.{Ok, Err}
use Rattle.pol_live.specs.declared.judging.TextRefusal.TheVariants.{TooLarge}
use Rattle.pol_live.proofs.JudgedFacts.{one_judged}
use Rattle.pol_live.proofs.live.Live.of_text.Goals as goal

pub returns-in-Ok-build-clause-only : goal.returns-in-Ok-build-clause-only
returns-in-Ok-build-clause-only c other k =
    let at = c.in-Ok-build in
    one_judged c.args.text.now (Ok at.live) other (rw at.ensures.found.0 (c.in-Ok.ensures.exact, at.ensures.found.1)) k

pub returns-in-Err-TooManyStates-clause-only : goal.returns-in-Err-TooManyStates-clause-only
returns-in-Err-TooManyStates-clause-only c other k =
    let at = c.in-Err-TooManyStates in
    one_judged c.args.text.now (Err (TooLarge at.subject)) other (c.in-Ok.policy, c.in-Ok.ensures.exact, rw at.field-0-is at at.ensures.found) k
