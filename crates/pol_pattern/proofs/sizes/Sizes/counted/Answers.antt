use Rattle.std.proofs.Common.{◌∙◌, ◌*◌, ap, sym, min, ℕ}
use Rattle.pol_pattern.specs.Flat.{term_size}
use Rattle.pol_pattern.specs.declared.sizes.Sizes.{Sizes}
use Rattle.pol_pattern.proofs.Copies.{size-counted, capped_counted}
use Rattle.pol_pattern.proofs.sizes.Sizes.counted.Goals as goal

pub returns : goal.returns
returns c = λ level is.
    capped_counted c.args.low c.args.high (term_size level.last) c.args.self.last c.capped_sum.result c.capped_product.result c.capped_product-options.result c.capped_sum-2.result
    (ap (λ (s : Sizes). s.last) is) c.capped_sum.ensures c.capped_product.ensures
    (c.capped_product-options.ensures ∙ ap (λ (n : ℕ). min 401 (n * c.capped_sum.result)) c.saturating_sub.ensures) c.capped_sum-2.ensures
    ∙ ap (min 401) (sym (size-counted c.args.low c.args.high level.last))
