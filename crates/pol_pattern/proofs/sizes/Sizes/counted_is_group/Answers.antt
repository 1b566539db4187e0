use Rattle.std.proofs.Common.{◌≤◌, ◌∙◌, inl, inr, sym, ap, arith}
use Rattle.pol_pattern.specs.Flat.{term_size}
use Rattle.pol_pattern.specs.declared.sizes.Sizes.{Sizes}
use Rattle.pol_pattern.proofs.Copies.{no_factors, no_times_one, no_unit_one, more_than_one, once_one}
use Rattle.pol_pattern.proofs.sizes.Sizes.counted_is_group.Goals as goal
use Rattle.pol_pattern.proofs.sizes.Sizes.counted_is_group.Goals.{then-low-eq0-via-then-low-eq0, then-low-eq0-via-else-low-eq0+then-self-eq0, then-low-gt1-via-then-low-gt1, then-low-gt1-via-else-low-gt1+then-options-gt0}

pub returns-then-low-eq0 : goal.returns-then-low-eq0
returns-then-low-eq0 c = λ level is.
    elim c.then-low-eq0.branch [
      | then-low-eq0-via-then-low-eq0 w ↦
          no_times_one c.args.low c.args.high _ level.last c.saturating_sub-options.ensures w.if-low-eq0.true
      | then-low-eq0-via-else-low-eq0+then-self-eq0 w ↦
          no_unit_one c.args.low c.args.high _ level.last c.saturating_sub-options.ensures (no_factors level.last (sym (ap (λ (s : Sizes). s.last) is) ∙ w.if-self-eq0.true))
    ]

pub returns-then-low-gt1 : goal.returns-then-low-gt1
returns-then-low-gt1 c = λ level is.
    let some : 1 ≤ term_size level.last = omega (arith, ap (λ (s : Sizes). s.last) is, c.if-self-eq0.false) in
    elim c.then-low-gt1.branch [
      | then-low-gt1-via-then-low-gt1 w ↦
          sym (more_than_one c.args.low c.args.high _ level.last c.saturating_sub-options.ensures some (inl w.if-low-gt1.true))
      | then-low-gt1-via-else-low-gt1+then-options-gt0 w ↦
          sym (more_than_one c.args.low c.args.high _ level.last c.saturating_sub-options.ensures some (inr (omega (arith, c.if-low-eq0.false), w.if-options-gt0.true)))
    ]

pub returns : goal.returns
returns c = λ level is.
    ap (λ (s : Sizes). s.last_is_group) is
    ∙ once_one c.args.low c.args.high _ level.last c.saturating_sub-options.ensures
    (omega (arith, c.if-low-eq0.false, c.if-low-gt1.false)) (omega (arith, c.if-options-gt0.false))
