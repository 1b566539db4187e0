use Rattle.std.proofs.Common.{Err, refl, ap}
use Rattle.std.proofs.lemmas.Bool.{false≢true}
use Rattle.pol_meaning.specs.Along.{patterns_along}
use Rattle.pol_meaning.specs.Sizes.{most_residuals}
use Rattle.pol_live.proofs.sizing.is_large.Goals as goal
use Rattle.pol_live.proofs.sizing.is_large.Goals.{in-Ok, in-Err-TooManyStates, in-Err-Memory}

pub returns : goal.returns
returns c =
    let patterns = patterns_along c.args.policy.now c.args.subject.now in
    elim c.match-of.branch [
      | in-Ok w ↦
          let index = (w.in-Ok.ensures.decider patterns c.in_ok-entries.ensures).index in
          rw w.result-is (λ is. absurd (false≢true is), λ more. absurd (w.in-Ok.ensures.excludes patterns _ most_residuals index w.in-Ok.ensures.few more))
      | in-Err-TooManyStates w ↦
          rw w.result-is (λ _. w.in-Err-TooManyStates.ensures.too_many patterns c.in_ok-entries.ensures (ap Err w.in-Err-TooManyStates.field-0-is), λ _. refl)
      | in-Err-Memory w ↦ rw w.result-is tt
    ]
