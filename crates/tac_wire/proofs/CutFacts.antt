-- Fields of given lengths: what cutting takes, and that it undoes joining.
use Rattle.std.proofs.Common.{◌≡◌, ℕ, suc, ◌+◌, ◌≤◌, List, [], ◌∷◌, ◌++◌, length, map, take, drop, sum, refl, ap, ◌∙◌, arith}
use Rattle.std.specs.List.{concat}
use Rattle.std.proofs.lemmas.List.{length-take, length-drop, take-append-drop, take_at, drop_at}
use Rattle.std.proofs.lemmas.List.Sums.{sum_by-cons}
use Rattle.tac_wire.specs.Cut.{cut, CutLaws}

sum-cons : (len : ℕ) (lens : List ℕ) → sum (len ∷ lens) ≡ len + sum lens
sum-cons len lens = sum_by-cons (λ x. x) len lens

-- the fields, joined again, are what the bytes begin with
pub concat-cut : (lens bytes : List ℕ) → sum lens ≡ length bytes → concat (cut lens bytes) ≡ bytes
concat-cut [] [] h = refl
concat-cut [] (b ∷ bytes) h = absurd (omega arith)
concat-cut (len ∷ lens) bytes h =
    ap (λ (rest : List ℕ). take len bytes ++ rest) (concat-cut lens (drop len bytes) (omega (arith, sum-cons len lens, length-drop len bytes))) ∙ take-append-drop len bytes

-- each field has its length
pub lengths-cut : (lens bytes : List ℕ) → sum lens ≤ length bytes → map length (cut lens bytes) ≡ lens
lengths-cut [] bytes h = refl
lengths-cut (len ∷ lens) bytes h =
    let here : length (take len bytes) ≡ len = omega (arith, sum-cons len lens, length-take len bytes) in
    let rest = lengths-cut lens (drop len bytes) (omega (arith, sum-cons len lens, length-drop len bytes)) in
    cc

-- there is a field for each length
pub length-cut : (lens bytes : List ℕ) → length (cut lens bytes) ≡ length lens
length-cut [] bytes = refl
length-cut (len ∷ lens) bytes = ap suc (length-cut lens (drop len bytes))

-- fields that were joined are cut again
pub cut-concat : (fields : List (List ℕ)) → cut (map length fields) (concat fields) ≡ fields
cut-concat [] = refl
cut-concat (field ∷ fields) =
    let front = take_at field (concat fields) (length field) refl in
    let back : cut (map length fields) (drop (length field) (field ++ concat fields)) ≡ fields = ap (cut (map length fields)) (drop_at field (concat fields) (length field) refl) ∙ cut-concat fields in
    cc

pub cut_laws : CutLaws
cut_laws = record { many = length-cut; lengths = lengths-cut; joined = concat-cut; again = cut-concat }
