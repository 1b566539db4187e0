-- A reply and the body that spells it.
use Rattle.std.proofs.Common.{◌≡◌, ℕ, zero, suc, ◌+◌, ◌<◌, ◌≤◌, Bool, true, false, cond, ltb, eqb, List, [], ◌∷◌, ◌++◌, length, get_or, map, take, drop, sum, Result, Ok, Err, refl, sym, ap, ◌∙◌, append_assoc, arith, ◌||◌}
use Rattle.std.specs.Prelude.{IfOk}
use Rattle.std.specs.List.{concat}
use Rattle.std.specs.Int.{w16, to_be_bytes, from_be_bytes}
use Rattle.std.proofs.lemmas.Bool.{or_parts, ltb-false, le-ltb, eqb-true, eq-eqb}
use Rattle.std.proofs.lemmas.List.{take_at, drop_at, take-append-drop, length-append, length-take, length-drop, length-map}
use Rattle.std.proofs.lemmas.Nat.{be_bytes_2, from_be_bytes-to_be_bytes_2}
use Rattle.basics.specs.Memory.{GivesUnlessMemory}
use Rattle.tac_wire.specs.declared.body.BodyFault.{BodyFault}
use Rattle.tac_wire.specs.declared.body.BodyFault.TheVariants.{Short, LengthSum, TooLong}
use Rattle.tac_wire.specs.Body.{is_memory}
use Rattle.tac_wire.specs.Cut.{cut, CutLaws}
use Rattle.tac_request.specs.declared.author_reply.AuthorReply.{AuthorReply}
use Rattle.tac_request.specs.AuthorReply.{msg_len, data_len, lengths_of, fields_of, author_reply, author_reply_of}
use Rattle.tac_request.proofs.RequestFacts.{sum-lengths}

-- a reply with any arguments
abbrev spelling : ℕ → List (List ℕ) → List ℕ → List ℕ
spelling status args msg = (status ∷ length args ∷ []) ++ to_be_bytes w16 (length msg) ++ to_be_bytes w16 0 ++ map length args ++ msg ++ concat args

-- the tests of a reader that did not fail
passed : {A : Type 0} (a b t : Bool) (x y : A) → cond a (Err Short) (cond b (cond t (Err TooLong) (Ok x)) (Err LengthSum)) ≡ Ok y → (a ≡ false) × (b ≡ true) × (t ≡ false) × (x ≡ y)
passed true b t x y e = absurd cc
passed false false t x y e = absurd cc
passed false true true x y e = absurd cc
passed false true false x y e = (refl, refl, refl, cc)

two_bytes : (high low : ℕ) → high < 256 → low < 256 → (i : ℕ) → get_or (high ∷ low ∷ []) i 0 < 256
two_bytes high low h l zero = h
two_bytes high low h l (suc zero) = l
two_bytes high low h l (suc (suc i)) = omega arith

two_back : (high low n : ℕ) → high < 256 → low < 256 → n ≡ from_be_bytes w16 (high ∷ low ∷ []) → to_be_bytes w16 n ≡ high ∷ low ∷ []
two_back high low n h l e = be_bytes_2 (high ∷ low ∷ []) n refl (two_bytes high low h l) e

regroup : (p q x y z : List ℕ) → p ++ q ++ x ++ y ++ z ≡ p ++ q ++ (x ++ y ++ z)
regroup p q x y z = append_assoc (p ++ q ++ x) y z ∙ append_assoc (p ++ q) x (y ++ z) ∙ ap (λ (after : List ℕ). p ++ q ++ after) (sym (append_assoc x y z))

same_parts : (status n n' : ℕ) (text text' nothing nothing' lens msg joined rest : List ℕ) → n' ≡ n → text ≡ text' → nothing ≡ nothing' → lens ++ msg ++ joined ≡ rest
    → (status ∷ n' ∷ []) ++ text ++ nothing ++ lens ++ msg ++ joined ≡ (status ∷ n ∷ []) ++ text' ++ nothing' ++ rest
same_parts status n n' text text' nothing nothing' lens msg joined rest e0 e1 e2 e3 =
    ap (λ (after : List ℕ). status ∷ n' ∷ after) (regroup text nothing lens msg joined) ∙ rw (e0, e1, e2, e3) refl

-- what is cut from a body without data is the body again
spelled : CutLaws → (status n m0 m1 d0 d1 : ℕ) (rest : List ℕ) → m0 < 256 → m1 < 256 → d0 < 256 → d1 < 256 → n ≤ length rest → from_be_bytes w16 (d0 ∷ d1 ∷ []) ≡ 0
    → length rest ≡ n + from_be_bytes w16 (m0 ∷ m1 ∷ []) + sum (take n rest)
    → spelling status (cut (take n rest) (drop (from_be_bytes w16 (m0 ∷ m1 ∷ [])) (drop n rest))) (take (from_be_bytes w16 (m0 ∷ m1 ∷ [])) (drop n rest)) ≡ status ∷ n ∷ m0 ∷ m1 ∷ d0 ∷ d1 ∷ rest
spelled laws status n m0 m1 d0 d1 rest f0 f1 g0 g1 long none whole =
    let m = from_be_bytes w16 (m0 ∷ m1 ∷ []) in
    let lens = take n rest in
    let fields = drop n rest in
    let last = drop m fields in
    let msg = take m fields in
    let args = cut lens last in
    let l0 = length-drop n rest in
    let l1 = length-drop m fields in
    let count : length args ≡ n = omega (arith, laws.many lens last, length-take n rest) in
    let size : length msg ≡ m = omega (arith, length-take m fields) in
    let args_len : map length args ≡ lens = laws.lengths lens last (omega arith) in
    let joined : concat args ≡ last = laws.joined lens last (omega arith) in
    let text : to_be_bytes w16 (length msg) ≡ m0 ∷ m1 ∷ [] = ap (to_be_bytes w16) size ∙ two_back m0 m1 m f0 f1 refl in
    let nothing : to_be_bytes w16 0 ≡ d0 ∷ d1 ∷ [] = two_back d0 d1 0 g0 g1 (sym none) in
    let after : map length args ++ msg ++ concat args ≡ rest = rw (args_len, joined) (simp (append_assoc, take-append-drop)) in
    same_parts status n (length args) (to_be_bytes w16 (length msg)) (m0 ∷ m1 ∷ []) (to_be_bytes w16 0) (d0 ∷ d1 ∷ []) (map length args) msg (concat args) rest count text nothing after

-- the reply that is read where no test fails
made : List ℕ → AuthorReply
made body = record { status = record { 0 = get_or body 0 0 }; msg = record { items = take (msg_len body) (fields_of body) }; args = cut (lengths_of body) (drop (msg_len body) (fields_of body)) }

record Passed (body : List ℕ) (reply : AuthorReply) : Type 0 where
  long : 6 + get_or body 1 0 ≤ length body
  whole : length body ≡ 6 + get_or body 1 0 + msg_len body + data_len body + sum (lengths_of body)
  no_data : data_len body ≡ 0
  is : made body ≡ reply

all_passed : (body : List ℕ) (reply : AuthorReply) → author_reply_of body ≡ Ok reply → Passed body reply
unfolding made
all_passed body reply e =
    let tests = passed (ltb (length body) (6 + get_or body 1 0)) (eqb (length body) (6 + get_or body 1 0 + msg_len body + data_len body + sum (lengths_of body))) (ltb 64 (msg_len body) || ltb 0 (data_len body)) (made body) reply e in
    let limits = or_parts (ltb 64 (msg_len body)) (ltb 0 (data_len body)) tests.2 in
    record {
      long = ltb-false _ _ tests.0;
      whole = eqb-true _ _ tests.1;
      no_data = let none = ltb-false 0 (data_len body) limits.1 in omega arith;
      is = tests.3;
    }

-- a reply that is read is spelled so
pub author_reply-found : CutLaws → (body : List ℕ) (reply : AuthorReply) → ((i : ℕ) → get_or body i 0 < 256) → author_reply_of body ≡ Ok reply → body ≡ author_reply reply
unfolding made
author_reply-found laws (status ∷ n ∷ m0 ∷ m1 ∷ d0 ∷ d1 ∷ rest) reply fits e =
    let body = status ∷ n ∷ m0 ∷ m1 ∷ d0 ∷ d1 ∷ rest in
    let p = all_passed body reply e in
    let again = spelled laws status n m0 m1 d0 d1 rest (fits 2) (fits 3) (fits 4) (fits 5) (omega (arith, p.long)) p.no_data (omega (arith, p.whole, p.no_data)) in
    sym again ∙ ap author_reply p.is
author_reply-found laws body reply fits e = absurd (omega (arith, (all_passed body reply e).long))

pub is_found : CutLaws → (body : List ℕ) (r : Result AuthorReply BodyFault) → ((i : ℕ) → get_or body i 0 < 256) → GivesUnlessMemory is_memory (λ reply. reply) r (author_reply_of body) → IfOk r (λ reply. body ≡ author_reply reply)
is_found laws body (Ok reply) fits e = author_reply-found laws body reply fits e
is_found laws body (Err fault) fits e = tt

-- a reply is read from the body that spells it
pub author_reply_of-author_reply : CutLaws → (reply : AuthorReply) → length reply.msg.items ≤ 64 → author_reply_of (author_reply reply) ≡ Ok reply
author_reply_of-author_reply laws reply short =
    let body = author_reply reply in
    let msg = reply.msg.items in
    let args = reply.args in
    let n = length args in
    let lens = map length args in
    let tail = lens ++ msg ++ concat args in
    let fields = msg ++ concat args in
    let size = length msg in
    let told = from_be_bytes w16 (to_be_bytes w16 size) in
    let told_is : told ≡ size = from_be_bytes-to_be_bytes_2 size (omega arith) in
    let regrouped : tail ≡ lens ++ fields = append_assoc lens msg (concat args) in
    let count : length lens ≡ n = length-map args length in
    let front : take n tail ≡ lens = ap (take n) regrouped ∙ take_at lens fields n count in
    let back : drop n tail ≡ fields = ap (drop n) regrouped ∙ drop_at lens fields n count in
    let total : sum lens ≡ length (concat args) = sum-lengths args in
    let tail_len : length tail ≡ n + size + sum lens = omega (arith, ap length regrouped, length-append lens fields, length-append msg (concat args)) in
    let long : ltb (length body) (6 + n) ≡ false = le-ltb _ _ (omega arith) in
    let whole : eqb (length body) (6 + n + size + 0 + sum lens) ≡ true = eq-eqb _ _ (omega arith) in
    let fits : ltb 64 size ≡ false = le-ltb _ _ short in
    let answer : ℕ → ℕ → List ℕ → List (List ℕ) → Result AuthorReply BodyFault = λ m sums text parts.
    cond (ltb (length body) (6 + n)) (Err Short) (cond (eqb (length body) (6 + n + m + 0 + sums)) (cond (ltb 64 m || ltb 0 0) (Err TooLong)
    (Ok (record reply { msg = record { items = text }; args = parts }))) (Err LengthSum)) in
    let one : author_reply_of body ≡ answer size (sum (take n tail)) (take size (drop n tail)) (cut (take n tail) (drop size (drop n tail)))
    = ap (λ (m : ℕ). answer m (sum (take n tail)) (take m (drop n tail)) (cut (take n tail) (drop m (drop n tail)))) told_is in
    let two = ap (λ (l : List ℕ). answer size (sum l) (take size (drop n tail)) (cut l (drop size (drop n tail)))) front in
    let three = ap (λ (f : List ℕ). answer size (sum lens) (take size f) (cut lens (drop size f))) back in
    let four = ap (λ (t : List ℕ). answer size (sum lens) t (cut lens (drop size fields))) (take_at msg (concat args) size refl) in
    let five = ap (λ (f : List ℕ). answer size (sum lens) msg (cut lens f)) (drop_at msg (concat args) size refl) in
    let six = ap (answer size (sum lens) msg) (laws.again args) in
    one ∙ two ∙ three ∙ four ∙ five ∙ six ∙ rw (long, whole, fits) refl
