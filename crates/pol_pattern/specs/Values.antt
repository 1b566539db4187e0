-- What each of the code's values represents. `factor_value` is a fold, which
-- computes on no variant.
use Rattle.std.specs.Prelude.{◌≡◌, List}
use Rattle.std.proofs.Common.{sym, ap, ◌∙◌}
use Rattle.std.proofs.lemmas.Simd.{map-map}
use Rattle.std.specs.Global.{Vec}
use Rattle.pol_pattern.specs.Flat.{Class, class, group, star, Factor, terms_of, factor_step}
use Rattle.pol_pattern.specs.Flat.{factor_value, terms_value}
use Rattle.pol_pattern.specs.declared.flat.Factor.{Factor as FactorValue}
use Rattle.pol_pattern.specs.declared.flat.Factor.TheViews as views
use Rattle.pol_pattern.specs.declared.flat.Factor.TheVariants as variants
use Rattle.pol_pattern.specs.declared.flat.Factor.TheOpen.{Factor-F}
use Rattle.pol_pattern.specs.declared.flat.Factor.TheFolds.{fold-roll-Factor}

pub value_class : (c : Class) → factor_value (variants.Class c) ≡ class c
value_class c =
    ap factor_value (sym (variants.rolls-Class c))
    ∙ fold-roll-Factor Factor factor_step (Factor-F.Class c)

pub value_group : (terms : Vec (Vec FactorValue))
    → factor_value (views.Group terms) ≡ group (terms_value terms.items)
value_group terms =
    ap factor_value (sym (variants.rolls-Group terms))
    ∙ fold-roll-Factor Factor factor_step (Factor-F.Group terms)
    ∙ ap (λ (ts : List (List Factor)). group (terms_of ts)) (map-map _ _ terms.items)

pub value_star : (terms : Vec (Vec FactorValue))
    → factor_value (views.Star terms) ≡ star (terms_value terms.items)
value_star terms =
    ap factor_value (sym (variants.rolls-Star terms))
    ∙ fold-roll-Factor Factor factor_step (Factor-F.Star terms)
    ∙ ap (λ (ts : List (List Factor)). star (terms_of ts)) (map-map _ _ terms.items)
