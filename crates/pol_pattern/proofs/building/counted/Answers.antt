use Rattle.std.proofs.Common.{◌-◌, refl, arith}
use Rattle.pol_pattern.specs.Flat.{Term, term_value}
use Rattle.pol_pattern.specs.Spelling.{copies, optional}
use Rattle.pol_pattern.proofs.Counts.{size-join_term}
use Rattle.pol_pattern.proofs.Values.{term_value-append}
use Rattle.pol_pattern.proofs.building.counted.Goals as goal

pub returns : goal.returns
returns c =
    rw (
      c.in_ok-append.ensures.items,
      term_value-append,
      c.in_ok-term.ensures,
      c.in_ok-options.ensures,
      c.deref.ensures.value,
      c.deref-2.ensures.value,
      c.in_ok-option.ensures,
      c.saturating_sub.ensures,
    ) refl

pub copies-requires : goal.copies-requires
copies-requires c =
    let factors : Term = term_value c.args.factors.items in
    rw c.deref.ensures.value
    (omega (arith, c.requires, size-join_term (copies c.args.low factors) (copies (c.args.high - c.args.low) (optional factors))))

pub copies-requires-2 : goal.copies-requires-2
copies-requires-2 c =
    let factors : Term = term_value c.args.factors.items in
    rw (c.deref-2.ensures.value, c.in_ok-option.ensures, c.saturating_sub.ensures)
    (omega (arith, c.requires, size-join_term (copies c.args.low factors) (copies (c.args.high - c.args.low) (optional factors))))
