-- A start and the body that spells it are one another's.
use Rattle.std.proofs.Common.{◌≡◌, ℕ, ◌+◌, Bool, true, false, cond, ltb, eqb, List, [], ◌∷◌, ◌++◌, length, get_or, map, sum, Result, Ok, Err, refl, ap, subst, sym, ◌∙◌, append-nil, append_assoc, arith}
use Rattle.std.specs.Prelude.{IfOk}
use Rattle.std.specs.List.{concat}
use Rattle.std.proofs.lemmas.Bool.{eqb-true, le-ltb, eq-eqb}
use Rattle.std.proofs.lemmas.List.{length-append}
use Rattle.std.proofs.lemmas.List.Sums.{sum_by-cons}
use Rattle.tac_wire.specs.declared.body.BodyFault.{BodyFault}
use Rattle.tac_wire.specs.declared.body.BodyFault.TheVariants.{Short, LengthSum}
use Rattle.basics.specs.Memory.{GivesUnlessMemory}
use Rattle.tac_wire.specs.Body.{is_memory}
use Rattle.tac_wire.specs.Cut.{cut, CutLaws}
use Rattle.tac_authen.specs.declared.start.Start.{Start}
use Rattle.tac_authen.specs.Start.{start_bytes, start_of}

-- two tests that did not fail
pub passed : {A : Type 0} (a b : Bool) (f g : BodyFault) (x y : A) → cond a (Err f) (cond b (Ok x) (Err g)) ≡ Ok y → (a ≡ false) × (b ≡ true) × (x ≡ y)
passed true b f g x y e = absurd cc
passed false false f g x y e = absurd cc
passed false true f g x y e = (refl, refl, cc)

sum-lengths : (fields : List (List ℕ)) → sum (map length fields) ≡ length (concat fields)
sum-lengths [] = refl
sum-lengths (field ∷ fields) = omega (arith, sum_by-cons (λ x. x) (length field) (map length fields), sum-lengths fields, length-append field (concat fields))

-- the fields of a start after its four cells, with their lengths
abbrev spelling : List ℕ → List ℕ → List ℕ → List ℕ → List ℕ
spelling user port rem_addr extra =
    (length user ∷ length port ∷ length rem_addr ∷ length extra ∷ []) ++ user ++ port ++ rem_addr ++ extra

joined : (user port rem_addr extra : List ℕ) → user ++ port ++ rem_addr ++ extra ≡ concat (user ∷ port ∷ rem_addr ∷ extra ∷ [])
joined user port rem_addr extra = rw append-nil (simp append_assoc)

same_spelling : (user port rem_addr extra rest : List ℕ) (u p a d : ℕ) → map length (user ∷ port ∷ rem_addr ∷ extra ∷ []) ≡ u ∷ p ∷ a ∷ d ∷ [] → concat (user ∷ port ∷ rem_addr ∷ extra ∷ []) ≡ rest
    → u ∷ p ∷ a ∷ d ∷ rest ≡ spelling user port rem_addr extra
same_spelling user port rem_addr extra rest u p a d lens all =
    ap (λ (l : List ℕ). l ++ rest) (sym lens) ∙ ap (λ (r : List ℕ). length user ∷ length port ∷ length rem_addr ∷ length extra ∷ r) (sym all ∙ sym (joined user port rem_addr extra))

-- a start that is read is spelled so
pub start-found : CutLaws → (body : List ℕ) (start : Start) → start_of body ≡ Ok start → body ≡ start_bytes start
start-found laws (b0 ∷ b1 ∷ b2 ∷ b3 ∷ u ∷ p ∷ a ∷ d ∷ rest) start e =
    let body = b0 ∷ b1 ∷ b2 ∷ b3 ∷ u ∷ p ∷ a ∷ d ∷ rest in
    let lens = u ∷ p ∷ a ∷ d ∷ [] in
    let fields = cut lens rest in
    let made : Start = record { action = record { 0 = b0 }; priv_lvl = b1; authen_type = record { 0 = b2 }; service = record { 0 = b3 }; user = get_or fields 0 []; port = get_or fields 1 []; rem_addr = get_or fields 2 []; extra = get_or fields 3 [] } in
    let tests = passed (ltb (length body) 8) (eqb (length body) (8 + sum lens)) Short LengthSum made start e in
    let whole = eqb-true _ _ tests.1 in
    let fits : sum lens ≡ length rest = omega arith in
    let same = same_spelling (get_or fields 0 []) (get_or fields 1 []) (get_or fields 2 []) (get_or fields 3 []) rest u p a d (laws.lengths lens rest (omega arith)) (laws.joined lens rest fits) in
    subst (λ (s : Start). body ≡ start_bytes s) tests.2 (ap (λ (r : List ℕ). b0 ∷ b1 ∷ b2 ∷ b3 ∷ r) same)
start-found laws body start e = absurd cc

-- a start is read from the body that spells it
pub start_of-start_bytes : CutLaws → (start : Start) → start_of (start_bytes start) ≡ Ok start
start_of-start_bytes laws start =
    let parts = start.user ∷ start.port ∷ start.rem_addr ∷ start.extra ∷ [] in
    let lens = map length parts in
    let all = start.user ++ start.port ++ start.rem_addr ++ start.extra in
    let same : all ≡ concat parts = joined start.user start.port start.rem_addr start.extra in
    let body = start_bytes start in
    let total : sum lens ≡ length all = sum-lengths parts ∙ ap length (sym same) in
    let long : ltb (length body) 8 ≡ false = le-ltb _ _ (omega arith) in
    let whole : eqb (length body) (8 + sum lens) ≡ true = eq-eqb _ _ (omega arith) in
    let again : cut lens all ≡ parts = ap (cut lens) same ∙ laws.again parts in
    let made : List (List ℕ) → Start = λ fields. record start { user = get_or fields 0 []; port = get_or fields 1 []; rem_addr = get_or fields 2 []; extra = get_or fields 3 [] } in
    let answer : List (List ℕ) → Result Start BodyFault = λ fields. cond (ltb (length body) 8) (Err Short) (cond (eqb (length body) (8 + sum lens)) (Ok (made fields)) (Err LengthSum)) in
    let fielded : answer (cut lens all) ≡ answer parts = ap answer again in
    fielded ∙ rw (long, whole) refl

pub is_found : CutLaws → (body : List ℕ) (r : Result Start BodyFault) → GivesUnlessMemory is_memory (λ body. body) r (start_of body) → IfOk r (λ start. body ≡ start_bytes start)
is_found laws body (Ok start) e = start-found laws body start e
is_found laws body (Err fault) e = tt
