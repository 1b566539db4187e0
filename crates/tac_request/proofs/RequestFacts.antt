-- A request and the body that spells it are one another's.
use Rattle.std.proofs.Common.{◌≡◌, ℕ, ◌+◌, ◌≤◌, Bool, true, false, cond, ltb, eqb, List, [], ◌∷◌, ◌++◌, length, get_or, map, take, drop, sum, Result, Ok, Err, refl, ap, subst, ◌∙◌, append_assoc, arith}
use Rattle.std.specs.Prelude.{IfOk}
use Rattle.std.specs.List.{concat}
use Rattle.std.proofs.lemmas.Bool.{ltb-false, eqb-true, le-ltb, eq-eqb}
use Rattle.std.proofs.lemmas.List.{take_at, drop_at, take-append-drop, length-append, length-take, length-drop, length-map}
use Rattle.std.proofs.lemmas.List.Sums.{sum_by-cons}
use Rattle.tac_wire.specs.declared.body.BodyFault.{BodyFault}
use Rattle.tac_wire.specs.declared.body.BodyFault.TheVariants.{Short, LengthSum}
use Rattle.basics.specs.Memory.{GivesUnlessMemory}
use Rattle.tac_wire.specs.Body.{is_memory}
use Rattle.tac_wire.specs.Cut.{cut, CutLaws}
use Rattle.tac_request.specs.declared.author_request.AuthorRequest.{AuthorRequest}
use Rattle.tac_request.specs.AuthorRequest.{author_request, author_request_of}

-- two tests that did not fail
passed : {A : Type 0} (a b : Bool) (f g : BodyFault) (x y : A) → cond a (Err f) (cond b (Ok x) (Err g)) ≡ Ok y → (a ≡ false) × (b ≡ true) × (x ≡ y)
passed true b f g x y e = absurd cc
passed false false f g x y e = absurd cc
passed false true f g x y e = (refl, refl, cc)

pub sum-cons : (len : ℕ) (lens : List ℕ) → sum (len ∷ lens) ≡ len + sum lens
sum-cons len lens = sum_by-cons (λ x. x) len lens

sum-three : (u p a : ℕ) (lens : List ℕ) → sum (u ∷ p ∷ a ∷ lens) ≡ u + p + a + sum lens
sum-three u p a lens = omega (arith, sum-cons u (p ∷ a ∷ lens), sum-cons p (a ∷ lens), sum-cons a lens)

-- what a request has after its eight bytes
abbrev tail : List ℕ → List ℕ → List ℕ → List (List ℕ) → List ℕ
tail user port rem_addr args = map length args ++ user ++ port ++ rem_addr ++ concat args

-- the fields that are cut from what follows the eight bytes, and their lengths, are that again
record IsSpelled (u p a n : ℕ) (user port rem_addr : List ℕ) (args : List (List ℕ)) (rest : List ℕ) : Type 0 where
  user_len : length user ≡ u
  port_len : length port ≡ p
  rem_addr_len : length rem_addr ≡ a
  arg_cnt : length args ≡ n
  all : tail user port rem_addr args ≡ rest

spelled : CutLaws → (u p a n : ℕ) (rest : List ℕ) → n ≤ length rest → length rest ≡ n + sum (u ∷ p ∷ a ∷ take n rest)
    → IsSpelled u p a n (take u (drop n rest)) (take p (drop u (drop n rest))) (take a (drop p (drop u (drop n rest)))) (cut (take n rest) (drop a (drop p (drop u (drop n rest))))) rest
spelled laws u p a n rest long whole =
    let lens = take n rest in
    let first = drop n rest in
    let second = drop u first in
    let third = drop p second in
    let last = drop a third in
    let total = sum-three u p a lens in
    let l0 = length-drop n rest in
    let l1 = length-drop u first in
    let l2 = length-drop p second in
    let l3 = length-drop a third in
    let fits : sum lens ≡ length last = omega arith in
    let args_len = laws.lengths lens last (omega arith) in
    let joined = laws.joined lens last fits in
    record {
      user_len = omega (arith, length-take u first);
      port_len = omega (arith, length-take p second);
      rem_addr_len = omega (arith, length-take a third);
      arg_cnt = omega (arith, laws.many lens last, length-take n rest);
      all = rw (args_len, joined) (simp (append_assoc, take-append-drop));
    }

same_cells : (b0 b1 b2 b3 u p a n u' p' a' n' : ℕ) (rest rest' : List ℕ) → u' ≡ u → p' ≡ p → a' ≡ a → n' ≡ n → rest' ≡ rest
    → b0 ∷ b1 ∷ b2 ∷ b3 ∷ u ∷ p ∷ a ∷ n ∷ rest ≡ b0 ∷ b1 ∷ b2 ∷ b3 ∷ u' ∷ p' ∷ a' ∷ n' ∷ rest'
same_cells b0 b1 b2 b3 u p a n u' p' a' n' rest rest' e0 e1 e2 e3 e4 = cc

-- a request that is read is spelled so
pub author_request-found : CutLaws → (body : List ℕ) (request : AuthorRequest) → author_request_of body ≡ Ok request → body ≡ author_request request
author_request-found laws (b0 ∷ b1 ∷ b2 ∷ b3 ∷ u ∷ p ∷ a ∷ n ∷ rest) request e =
    let body = b0 ∷ b1 ∷ b2 ∷ b3 ∷ u ∷ p ∷ a ∷ n ∷ rest in
    let fields = cut (u ∷ p ∷ a ∷ take n rest) (drop n rest) in
    let made : AuthorRequest = record { authen_method = b0; priv_lvl = b1; authen_type = b2; authen_service = b3; user = get_or fields 0 []; port = get_or fields 1 []; rem_addr = get_or fields 2 []; args = drop 3 fields } in
    let tests = passed (ltb (length body) (8 + n)) (eqb (length body) (8 + n + sum (u ∷ p ∷ a ∷ take n rest))) Short LengthSum made request e in
    let long = ltb-false _ _ tests.0 in
    let whole = eqb-true _ _ tests.1 in
    let s = spelled laws u p a n rest (omega arith) (omega arith) in
    subst (λ (r : AuthorRequest). body ≡ author_request r) tests.2
    (same_cells b0 b1 b2 b3 u p a n _ _ _ _ rest _ s.user_len s.port_len s.rem_addr_len s.arg_cnt s.all)
author_request-found laws body request e = absurd cc

-- what was joined is cut again
recut : CutLaws → (user port rem_addr : List ℕ) (args : List (List ℕ)) → cut (length user ∷ length port ∷ length rem_addr ∷ map length args) (user ++ (port ++ (rem_addr ++ concat args))) ≡ user ∷ port ∷ rem_addr ∷ args
recut laws user port rem_addr args = laws.again (user ∷ port ∷ rem_addr ∷ args)

pub sum-lengths : (fields : List (List ℕ)) → sum (map length fields) ≡ length (concat fields)
sum-lengths [] = refl
sum-lengths (field ∷ fields) = omega (arith, sum-cons (length field) (map length fields), sum-lengths fields, length-append field (concat fields))

-- a request is read from the body that spells it
pub author_request_of-author_request : CutLaws → (request : AuthorRequest) → author_request_of (author_request request) ≡ Ok request
author_request_of-author_request laws request =
    let user = request.user in
    let port = request.port in
    let rem_addr = request.rem_addr in
    let args = request.args in
    let lens = map length args in
    let fields = user ++ (port ++ (rem_addr ++ concat args)) in
    let all = tail user port rem_addr args in
    let regrouped : all ≡ lens ++ fields = simp append_assoc in
    let count : length lens ≡ length args = length-map args length in
    let front : take (length args) all ≡ lens = ap (take (length args)) regrouped ∙ take_at lens fields (length args) count in
    let back : drop (length args) all ≡ fields = ap (drop (length args)) regrouped ∙ drop_at lens fields (length args) count in
    let total : sum (length user ∷ length port ∷ length rem_addr ∷ lens) ≡ length fields = sum-lengths (user ∷ port ∷ rem_addr ∷ args) in
    let size : length all ≡ length args + length fields = ap length regrouped ∙ omega (arith, length-append lens fields) in
    let body = author_request request in
    let long : ltb (length body) (8 + length args) ≡ false = le-ltb _ _ (omega arith) in
    let whole : eqb (length body) (8 + length args + length fields) ≡ true = eq-eqb _ _ (omega arith) in
    let made : List (List ℕ) → AuthorRequest = λ parts. record request { user = get_or parts 0 []; port = get_or parts 1 []; rem_addr = get_or parts 2 []; args = drop 3 parts } in
    let answer : ℕ → List (List ℕ) → Result AuthorRequest BodyFault = λ sum_of parts. cond (ltb (length body) (8 + length args)) (Err Short) (cond (eqb (length body) (8 + length args + sum_of)) (Ok (made parts)) (Err LengthSum)) in
    let three : List ℕ → List ℕ = λ others. length user ∷ length port ∷ length rem_addr ∷ others in
    let lens_of = take (length args) all in
    let parts = cut (three lens_of) (drop (length args) all) in
    let sums : sum (three lens_of) ≡ length fields = ap (λ (l : List ℕ). sum (three l)) front ∙ total in
    let again : parts ≡ user ∷ port ∷ rem_addr ∷ args = ap (λ (l : List ℕ). cut (three l) (drop (length args) all)) front ∙ ap (cut (three lens)) back ∙ recut laws user port rem_addr args in
    let summed : answer (sum (three lens_of)) parts ≡ answer (length fields) parts = ap (λ (k : ℕ). answer k parts) sums in
    let fielded : answer (length fields) parts ≡ answer (length fields) (user ∷ port ∷ rem_addr ∷ args) = ap (answer (length fields)) again in
    summed ∙ fielded ∙ rw (long, whole) refl

pub is_found : CutLaws → (body : List ℕ) (r : Result AuthorRequest BodyFault) → GivesUnlessMemory is_memory (λ body. body) r (author_request_of body) → IfOk r (λ request. body ≡ author_request request)
is_found laws body (Ok request) e = author_request-found laws body request e
is_found laws body (Err fault) e = tt
