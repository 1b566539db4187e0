use Rattle.std.proofs.Common.{◌≡◌, ◌<◌, ◌∷◌, ◌++◌, [], List, length, ap, sym, ◌∙◌, arith}
use Rattle.std.proofs.lemmas.Result.{IfOk-weaker}
use Rattle.std.proofs.lemmas.Bool.{eqb-true}
use Rattle.pol_pattern.specs.declared.flat.Factor.{Factor as FactorValue}
use Rattle.pol_pattern.specs.declared.flat.Factor.TheViews as views
use Rattle.pol_pattern.proofs.Units.{group_alternatives, many_alternatives, other_alternatives, nothing_left, single_term, positive_from_test}
use Rattle.pol_pattern.proofs.building.alternatives.Goals as goal

pub returns-then-is_empty : goal.returns-then-is_empty
returns-then-is_empty c =
    let left : length c.pop.new.self.items ≡ 0 = sym c.pop.new.self.ok.0 ∙ eqb-true _ _ (sym c.is_empty.ensures ∙ c.if-is_empty.true) in
    group_alternatives c.in-Group.terms c.args.factors.items
    (c.in-Some.ensures.items ∙ ap (λ (f : List FactorValue). f ++ c.in-Some.last ∷ []) (nothing_left c.pop.new.self.items left)
    ∙ ap (λ (f : FactorValue). f ∷ []) c.in-Group.is)

pub returns-in_ok-push-in-Group : goal.returns-in_ok-push-in-Group
returns-in_ok-push-in-Group c =
    let front = c.pop.new.self.items in
    let some : 0 < length front = omega (arith, c.pop.new.self.ok.0, positive_from_test _ (sym c.is_empty.ensures ∙ c.if-is_empty.false)) in
    IfOk-weaker c.single-in-Group.result _ _ (λ terms is.
    single_term terms.items c.push.new.self _ _ is c.in_ok-push-in-Group.ensures.items
    (many_alternatives front (views.Group c.in-Group.terms) c.args.factors.items some
    (c.in-Some.ensures.items ∙ ap (λ (f : FactorValue). front ++ f ∷ []) c.in-Group.is)))
    c.single-in-Group.ensures

pub returns-in_ok-push-in_default-last : goal.returns-in_ok-push-in_default-last
returns-in_ok-push-in_default-last c =
    let front = c.pop.new.self.items in
    IfOk-weaker c.single-in_default-last.result _ _ (λ terms is.
    single_term terms.items c.push-in_default-last.new.self _ _ is c.in_ok-push-in_default-last.ensures.items
    (other_alternatives front c.in-Some.last c.args.factors.items c.in_default-last.not-Group c.in-Some.ensures.items))
    c.single-in_default-last.ensures
