-- What is read of an answer is spelled so.
use Rattle.std.proofs.Common.{◌≡◌, ℕ, zero, suc, ◌+◌, ◌<◌, ltb, eqb, List, [], ◌∷◌, ◌++◌, length, get_or, take, drop, Result, Ok, Err, refl, subst, append_assoc, arith}
use Rattle.std.specs.Prelude.{IfOk}
use Rattle.std.specs.Int.{w16, to_be_bytes, from_be_bytes}
use Rattle.std.proofs.lemmas.Bool.{eqb-true}
use Rattle.std.proofs.lemmas.List.{take-append-drop, length-take, length-drop}
use Rattle.std.proofs.lemmas.Nat.{be_bytes_2}
use Rattle.tac_wire.specs.declared.body.BodyFault.{BodyFault}
use Rattle.tac_wire.specs.declared.body.BodyFault.TheVariants.{Short, LengthSum}
use Rattle.basics.specs.Memory.{GivesUnlessMemory}
use Rattle.tac_wire.specs.Body.{is_memory}
use Rattle.tac_authen.specs.declared.continuation.Continue.{Continue}
use Rattle.tac_authen.specs.Continue.{continue_bytes, continue_of}
use Rattle.tac_authen.proofs.StartFacts.{passed}

two_bytes : (high low : ℕ) → high < 256 → low < 256 → (i : ℕ) → get_or (high ∷ low ∷ []) i 0 < 256
two_bytes high low h l zero = h
two_bytes high low h l (suc zero) = l
two_bytes high low h l (suc (suc i)) = omega arith

-- the length that two bytes tell is spelled by them
two_back : (high low n : ℕ) → high < 256 → low < 256 → n ≡ from_be_bytes w16 (high ∷ low ∷ []) → to_be_bytes w16 n ≡ high ∷ low ∷ []
two_back high low n h l e = be_bytes_2 (high ∷ low ∷ []) n refl (two_bytes high low h l) e

same_parts : (p q front back rest p' q' : List ℕ) (flags : ℕ) → p ≡ p' → q ≡ q' → front ++ back ≡ rest → p' ++ q' ++ flags ∷ rest ≡ p ++ q ++ (flags ∷ []) ++ front ++ back
same_parts p q front back rest p' q' flags e f g = rw (e, f, ← g) (simp append_assoc)

-- an answer that is read is spelled so
pub continue-found : (body : List ℕ) (answer : Continue) → ((i : ℕ) → get_or body i 0 < 256) → continue_of body ≡ Ok answer → body ≡ continue_bytes answer
continue-found (m0 ∷ m1 ∷ d0 ∷ d1 ∷ flags ∷ rest) answer fits e =
    let body = m0 ∷ m1 ∷ d0 ∷ d1 ∷ flags ∷ rest in
    let m = from_be_bytes w16 (m0 ∷ m1 ∷ []) in
    let d = from_be_bytes w16 (d0 ∷ d1 ∷ []) in
    let made : Continue = record { user_msg = take m rest; extra = drop m rest; flags = flags } in
    let tests = passed (ltb (length body) 5) (eqb (length body) (5 + m + d)) Short LengthSum made answer e in
    let whole = eqb-true _ _ tests.1 in
    let front : to_be_bytes w16 (length (take m rest)) ≡ m0 ∷ m1 ∷ [] = two_back m0 m1 _ (fits 0) (fits 1) (omega (arith, length-take m rest)) in
    let back : to_be_bytes w16 (length (drop m rest)) ≡ d0 ∷ d1 ∷ [] = two_back d0 d1 _ (fits 2) (fits 3) (omega (arith, length-drop m rest)) in
    let same = same_parts _ _ (take m rest) (drop m rest) rest (m0 ∷ m1 ∷ []) (d0 ∷ d1 ∷ []) flags front back (take-append-drop m rest) in
    subst (λ (a : Continue). body ≡ continue_bytes a) tests.2 same
continue-found body answer fits e = absurd cc

pub is_found : (body : List ℕ) (r : Result Continue BodyFault) → ((i : ℕ) → get_or body i 0 < 256) → GivesUnlessMemory is_memory (λ body. body) r (continue_of body) → IfOk r (λ answer. body ≡ continue_bytes answer)
is_found body (Ok answer) fits e = continue-found body answer fits e
is_found body (Err fault) fits e = tt
