-- What repeats a unit, on the code's values.
use Rattle.std.proofs.Common.{◌≡◌, ℕ, zero, suc, ◌<◌, false, eqb, List, [], ◌∷◌, ◌++◌, length, refl, sym, ap, ◌∙◌, arith}
use Rattle.std.specs.Global.{Vec}
use Rattle.pol_pattern.specs.Flat.{class, group, star, Factor, Term, empty, put, Terms, none, alt, factor_step, factor_value, term_value, terms_value}
use Rattle.pol_pattern.specs.Spelling.{alternatives_of}
use Rattle.pol_pattern.specs.declared.flat.Factor.{Factor as FactorValue}
use Rattle.pol_pattern.specs.declared.flat.Factor.TheViews as views
use Rattle.pol_pattern.specs.declared.flat.Factor.TheVariants as variants
use Rattle.pol_pattern.specs.declared.flat.Factor.TheOpen.{Factor-F}
use Rattle.pol_pattern.specs.declared.flat.Factor.TheFolds.{fold-roll-Factor, ind-Factor}
use Rattle.pol_pattern.specs.Values.{value_group}

-- one group
pub group_alternatives : (terms : Vec (Vec FactorValue)) (factors : List FactorValue) → factors ≡ views.Group terms ∷ [] → terms_value terms.items ≡ alternatives_of (term_value factors)
group_alternatives terms factors is = rw (is, value_group terms) refl

more_than_one : (first second : Factor) (others : Term) → alternatives_of (put first (put second others)) ≡ alt (put first (put second others)) none
more_than_one (class c) second others = refl
more_than_one (group terms) second others = refl
more_than_one (star terms) second others = refl

pub many_alternatives : (front : List FactorValue) (last : FactorValue) (factors : List FactorValue) → 0 < length front → factors ≡ front ++ last ∷ []
    → alt (term_value (front ++ last ∷ [])) none ≡ alternatives_of (term_value factors)
many_alternatives [] last factors lt is = absurd (omega arith)
many_alternatives (first ∷ []) last factors lt is = rw is (sym (more_than_one (factor_value first) (factor_value last) empty))
many_alternatives (first ∷ second ∷ front) last factors lt is = rw is (sym (more_than_one (factor_value first) (factor_value second) (term_value (front ++ last ∷ []))))

abbrev IsAlone : FactorValue → Type 0
IsAlone factor = ((terms : Vec (Vec FactorValue)) → factor ≡ views.Group terms → ⊥) → alt (put (factor_value factor) empty) none ≡ alternatives_of (put (factor_value factor) empty)

alone_layer : (x : Factor-F FactorValue) → IsAlone (views.roll-Factor x)
alone_layer (Factor-F.Class c) other = rw (fold-roll-Factor Factor factor_step (Factor-F.Class c)) refl
alone_layer (Factor-F.Group terms) other = absurd (other terms (variants.rolls-Group terms))
alone_layer (Factor-F.Star terms) other = rw (fold-roll-Factor Factor factor_step (Factor-F.Star terms)) refl

one_alone : (factor : FactorValue) → IsAlone factor
one_alone = ind-Factor IsAlone (λ x y is. alone_layer x)

-- the last factor is no group
pub other_alternatives : (front : List FactorValue) (last : FactorValue) (factors : List FactorValue) → ((terms : Vec (Vec FactorValue)) → last ≡ views.Group terms → ⊥)
    → factors ≡ front ++ last ∷ [] → alt (term_value (front ++ last ∷ [])) none ≡ alternatives_of (term_value factors)
other_alternatives [] last factors other is = rw is (one_alone last other)
other_alternatives (first ∷ front) last factors other is = many_alternatives (first ∷ front) last factors (omega arith) is

pub nothing_left : {A : Type 0} (list : List A) → length list ≡ 0 → list ≡ []
nothing_left [] is = refl
nothing_left (x ∷ list) is = absurd (omega arith)

pub positive_from_test : (n : ℕ) → eqb n 0 ≡ false → 0 < n
positive_from_test zero is = absurd cc
positive_from_test (suc n) is = omega arith

-- the one term of these factors
pub single_term : (terms : List (Vec FactorValue)) (term : Vec FactorValue) (factors : List FactorValue) (total : Terms) → terms ≡ term ∷ [] → term.items ≡ factors
    → alt (term_value factors) none ≡ total → terms_value terms ≡ total
single_term terms term factors total is inner rest = ap terms_value is ∙ ap (λ (f : List FactorValue). alt (term_value f) none) inner ∙ rest
