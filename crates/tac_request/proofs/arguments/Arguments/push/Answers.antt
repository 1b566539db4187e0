use Rattle.std.proofs.Common.{◌≡◌, ◌<◌, ◌≤◌, ◌*◌, ◌++◌, ◌∷◌, [], ap, ◌∙◌, length, List, ℕ, arith}
use Rattle.tac_wire.specs.Cut.{cut}
use Rattle.tac_wire.proofs.CutFacts.{cut_laws}
use Rattle.tac_request.proofs.ArgumentsFacts.{grown-sum, grown-length, cut-one-more}
use Rattle.tac_request.proofs.arguments.Arguments.push.Goals as goal

pub invariant_of-self-2 : goal.invariant_of-self-2
invariant_of-self-2 c =
    let n = length c.args.argument.now in
    let lens = c.self.inside.lengths.items in
    let bytes = c.self.inside.joined.items in
    let l : c.put.new.bytes.items ≡ lens ++ n ∷ [] = c.put.ensures ∙ ap (λ (xs : List ℕ). xs ++ n ∷ []) c.in_ok-reserve.ensures.items in
    let b : c.put-2.new.bytes.items ≡ bytes ++ c.args.argument.now = c.put-2.ensures ∙ ap (λ (xs : List ℕ). xs ++ c.args.argument.now) c.in_ok-reserve-2.ensures.items in
    let many : length (cut lens bytes) < 255 = omega (arith, c.requires.few, ap (λ (xs : List (List ℕ)). length xs) c.self.view_is) in
    let few : length c.put.new.bytes.items ≤ 255 = omega (arith, many, cut_laws.many lens bytes, grown-length lens _ (n ∷ []) l) in
    let short : length c.put-2.new.bytes.items ≤ 255 * length c.put.new.bytes.items = omega (arith, c.requires.short, c.self.invariant.2, grown-length lens _ (n ∷ []) l, grown-length bytes _ c.args.argument.now b) in
    (grown-sum lens bytes _ _ c.args.argument.now c.self.invariant.0 l b, few, short)

pub returns-clause-ok : goal.returns-clause-ok
returns-clause-ok c =
    let n = length c.args.argument.now in
    let lens = c.self.inside.lengths.items in
    let bytes = c.self.inside.joined.items in
    let l : c.put.new.bytes.items ≡ lens ++ n ∷ [] = c.put.ensures ∙ ap (λ (xs : List ℕ). xs ++ n ∷ []) c.in_ok-reserve.ensures.items in
    let b : c.put-2.new.bytes.items ≡ bytes ++ c.args.argument.now = c.put-2.ensures ∙ ap (λ (xs : List ℕ). xs ++ c.args.argument.now) c.in_ok-reserve-2.ensures.items in
    ap (λ (xs : List ℕ). cut xs c.put-2.new.bytes.items) l
    ∙ ap (cut (lens ++ n ∷ [])) b
    ∙ cut-one-more lens bytes c.args.argument.now n c.self.invariant.0 (omega arith)
    ∙ ap (λ (xs : List (List ℕ)). xs ++ c.args.argument.now ∷ []) c.self.view_is
