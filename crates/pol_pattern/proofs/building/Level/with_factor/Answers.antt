use Rattle.std.proofs.Common.{◌≡◌, ◌≤◌, List, [], ◌∷◌, ◌++◌, ap, ◌∙◌, arith}
use Rattle.pol_pattern.specs.Flat.{Factor, empty, put, factor_size, term_size, term_value}
use Rattle.pol_pattern.specs.declared.flat.Factor.{Factor as FactorValue}
use Rattle.pol_pattern.proofs.Written.{present_written}
use Rattle.pol_pattern.proofs.building.Level.with_factor.Goals as goal

pub returns-then-size-gt-FACTORS : goal.returns-then-size-gt-FACTORS
returns-then-size-gt-FACTORS c = λ level read same size one value. record {
  sizes = c.with_factor-sizes.ensures level (put read empty) same.sizes (omega (arith, size)) one;
  done = same.done;
  before = present_written c.args.self level _ same c.in_ok-append.ensures.items;
  last = λ fits. absurd (omega (arith, fits, size, c.if-size-gt-FACTORS.true));
  written = omega (arith, ap (λ (f : List FactorValue). term_size (term_value f)) c.in_ok-append.ensures.other_items);
}

pub returns : goal.returns
returns c = λ level read same size one value.
    let fits : factor_size read ≤ 400 = omega (arith, size, c.if-size-gt-FACTORS.false) in
    let is : term_value c.push.new.self.items ≡ put read empty =
    ap term_value (c.in_ok-push.ensures.items ∙ ap (λ (f : List FactorValue). f ++ c.args.factor ∷ []) c.in_ok-append.ensures.other_items)
    ∙ ap (λ (f : Factor). put f empty) (value fits) in
    record {
      sizes = c.with_factor-sizes.ensures level (put read empty) same.sizes (omega (arith, size)) one;
      done = same.done;
      before = present_written c.args.self level _ same c.in_ok-append.ensures.items;
      last = λ _. is;
      written = omega (arith, fits, ap term_size is);
    }
