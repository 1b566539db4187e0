-- A reply and the body that spells it.
use Rattle.std.proofs.Common.{◌≡◌, ℕ, zero, suc, ◌+◌, ◌<◌, ◌≤◌, Bool, true, false, cond, ltb, eqb, List, [], ◌∷◌, ◌++◌, length, get_or, map, take, drop, sum, Result, Ok, Err, refl, sym, ap, ◌∙◌, subst, append-nil, append_assoc, arith}
use Rattle.std.specs.Prelude.{IfOk}
use Rattle.std.specs.List.{concat}
use Rattle.std.specs.Int.{w16, to_be_bytes, from_be_bytes}
use Rattle.std.proofs.lemmas.Bool.{ltb-false, le-ltb, eqb-true, eq-eqb}
use Rattle.std.proofs.lemmas.List.{take_at, drop_at, take-append-drop, length-append, length-take, length-drop, length-map}
use Rattle.std.proofs.lemmas.Nat.{be_bytes_2, from_be_bytes-to_be_bytes_2}
use Rattle.basics.specs.Memory.{GivesUnlessMemory}
use Rattle.tac_wire.specs.declared.body.BodyFault.{BodyFault}
use Rattle.tac_wire.specs.declared.body.BodyFault.TheVariants.{Short, LengthSum}
use Rattle.tac_wire.specs.Body.{is_memory}
use Rattle.tac_wire.specs.Cut.{cut}
use Rattle.tac_wire.proofs.CutFacts.{cut_laws}
use Rattle.tac_request.proofs.RequestFacts.{sum-lengths}
use Rattle.tac_ask.specs.declared.reply.ReplyFields.{ReplyFields}
use Rattle.tac_ask.specs.declared.reply.ReplyHead.{ReplyHead}
use Rattle.tac_ask.specs.Reply.{fields_of, authen_reply_bytes, author_reply_bytes, acct_reply_bytes, authen_reply_of, author_reply_of, acct_reply_of, authen_head, author_head, acct_head, IsAuthenReply, IsAuthorReply, IsAcctReply}

-- ---- the texts and the arguments

made : ReplyHead → List ℕ → List ℕ → List (List ℕ) → ReplyFields
made head msg extra args = record { status = head.status; flags = head.flags; server_msg = msg; extra = extra; args = args }

record IsRead (head : ReplyHead) (lens fields : List ℕ) (reply : ReplyFields) : Type 0 where
  status : reply.status ≡ head.status
  flags : reply.flags ≡ head.flags
  msg_len : length reply.server_msg ≡ head.msg_len
  data_len : length reply.extra ≡ head.data_len
  lengths : map length reply.args ≡ lens
  all : reply.server_msg ++ reply.extra ++ concat reply.args ≡ fields

passed : {A : Type 0} (b : Bool) (x y : A) → cond b (Ok x) (Err LengthSum) ≡ Ok y → (b ≡ true) × (x ≡ y)
passed true x y e = (refl, cc)
passed false x y e = absurd cc

-- what is read has the lengths that were told, and is what stood there
fields-found : (head : ReplyHead) (lens fields : List ℕ) (reply : ReplyFields) → fields_of head lens fields ≡ Ok reply → IsRead head lens fields reply
unfolding made
fields-found head lens fields reply e =
    let m = head.msg_len in
    let d = head.data_len in
    let rest = drop m fields in
    let last = drop d rest in
    let args = cut lens last in
    let read = made head (take m fields) (take d rest) args in
    let tests = passed (eqb (length fields) (m + d + sum lens)) read reply e in
    let whole = eqb-true _ _ tests.0 in
    let l0 = length-drop m fields in
    let l1 = length-drop d rest in
    let fits : sum lens ≡ length last = omega arith in
    let joined : concat args ≡ last = cut_laws.joined lens last fits in
    let all : take m fields ++ take d rest ++ concat args ≡ fields = rw joined (simp (append_assoc, take-append-drop)) in
    subst (λ (r : ReplyFields). IsRead head lens fields r) tests.1
    (record {
      status = refl;
      flags = refl;
      msg_len = omega (arith, length-take m fields);
      data_len = omega (arith, length-take d rest);
      lengths = cut_laws.lengths lens last (omega arith);
      all = all;
    })

-- what was written is read again
fields-again : (head : ReplyHead) (lens fields : List ℕ) (reply : ReplyFields) → IsRead head lens fields reply → fields_of head lens fields ≡ Ok reply
unfolding made
fields-again head lens fields reply is =
    let msg = reply.server_msg in
    let extra = reply.extra in
    let joined = concat reply.args in
    let m = head.msg_len in
    let d = head.data_len in
    let total : sum lens ≡ length joined = ap sum (sym is.lengths) ∙ sum-lengths reply.args in
    let front : fields ≡ msg ++ (extra ++ joined) = sym is.all ∙ append_assoc msg extra joined in
    let size : length fields ≡ m + d + sum lens = ap length front ∙ omega (arith, length-append msg (extra ++ joined), length-append extra joined, is.msg_len, is.data_len, total) in
    let whole : eqb (length fields) (m + d + sum lens) ≡ true = eq-eqb _ _ size in
    let first : take m fields ≡ msg = ap (take m) front ∙ take_at msg (extra ++ joined) m is.msg_len in
    let rest : drop m fields ≡ extra ++ joined = ap (drop m) front ∙ drop_at msg (extra ++ joined) m is.msg_len in
    let second : take d (drop m fields) ≡ extra = ap (take d) rest ∙ take_at extra joined d is.data_len in
    let last : drop d (drop m fields) ≡ joined = ap (drop d) rest ∙ drop_at extra joined d is.data_len in
    let args : cut lens (drop d (drop m fields)) ≡ reply.args = ap (cut lens) last ∙ ap (λ (l : List ℕ). cut l joined) (sym is.lengths) ∙ cut_laws.again reply.args in
    let answer : Bool → List ℕ → List ℕ → List (List ℕ) → Result ReplyFields BodyFault = λ b x y z. cond b (Ok (made head x y z)) (Err LengthSum) in
    let one = ap (λ (b : Bool). answer b (take m fields) (take d (drop m fields)) (cut lens (drop d (drop m fields)))) whole in
    let two = ap (λ (x : List ℕ). answer true x (take d (drop m fields)) (cut lens (drop d (drop m fields)))) first in
    let three = ap (λ (y : List ℕ). answer true msg y (cut lens (drop d (drop m fields)))) second in
    let four = ap (answer true msg extra) args in
    let five : answer true msg extra reply.args ≡ Ok (record reply { flags = head.flags }) = ap (λ (s : ℕ). Ok (record reply { status = s; flags = head.flags })) (sym is.status) in
    let six : Ok (record reply { flags = head.flags }) ≡ Ok reply = ap (λ (f : ℕ). Ok (record reply { flags = f })) (sym is.flags) in
    one ∙ two ∙ three ∙ four ∙ five ∙ six

-- ---- the cells before them

two_bytes : (high low : ℕ) → high < 256 → low < 256 → (i : ℕ) → get_or (high ∷ low ∷ []) i 0 < 256
two_bytes high low h l zero = h
two_bytes high low h l (suc zero) = l
two_bytes high low h l (suc (suc i)) = omega arith

two_back : (high low n : ℕ) → high < 256 → low < 256 → n ≡ from_be_bytes w16 (high ∷ low ∷ []) → to_be_bytes w16 n ≡ high ∷ low ∷ []
two_back high low n h l e = be_bytes_2 (high ∷ low ∷ []) n refl (two_bytes high low h l) e

not_short : (b : Bool) (r : Result ReplyFields BodyFault) (reply : ReplyFields) → cond b (Err Short) r ≡ Ok reply → (b ≡ false) × (r ≡ Ok reply)
not_short true r reply e = absurd cc
not_short false r reply e = (refl, e)

no_args : (args : List (List ℕ)) → map length args ≡ [] → args ≡ []
no_args [] e = refl
no_args (arg ∷ args) e = absurd cc

-- without arguments the two texts are all
both_texts : (msg extra rest : List ℕ) (args : List (List ℕ)) → map length args ≡ [] → msg ++ extra ++ concat args ≡ rest → msg ++ extra ≡ rest
both_texts msg extra rest args none all =
    sym (append-nil (msg ++ extra)) ∙ ap (λ (l : List (List ℕ)). msg ++ extra ++ concat l) (sym (no_args args none)) ∙ all

small : (n : ℕ) → n < 65536 → from_be_bytes w16 (to_be_bytes w16 n) ≡ n
small n h = from_be_bytes-to_be_bytes_2 n (omega arith)

-- ---- authentication

authen_parts : (s f s' f' : ℕ) (x x' y y' msg extra rest : List ℕ) → s ≡ s' → f ≡ f' → x ≡ x' → y ≡ y' → msg ++ extra ≡ rest
    → (s ∷ f ∷ []) ++ x ++ y ++ msg ++ extra ≡ (s' ∷ f' ∷ []) ++ x' ++ y' ++ rest
authen_parts s f s' f' x x' y y' msg extra rest e0 e1 e2 e3 e4 =
    append_assoc ((s ∷ f ∷ []) ++ x ++ y) msg extra ∙ rw (e0, e1, e2, e3, e4) refl

authen-found : (body : List ℕ) (reply : ReplyFields) → ((i : ℕ) → get_or body i 0 < 256) → authen_reply_of body ≡ Ok reply → body ≡ authen_reply_bytes reply
authen-found (s ∷ f ∷ m0 ∷ m1 ∷ d0 ∷ d1 ∷ rest) reply fits e =
    let body = s ∷ f ∷ m0 ∷ m1 ∷ d0 ∷ d1 ∷ rest in
    let is = fields-found (authen_head body) [] rest reply (not_short (ltb (length body) 6) (fields_of (authen_head body) [] rest) reply e).1 in
    sym (authen_parts reply.status reply.flags s f (to_be_bytes w16 (length reply.server_msg)) (m0 ∷ m1 ∷ []) (to_be_bytes w16 (length reply.extra)) (d0 ∷ d1 ∷ []) reply.server_msg reply.extra rest
    is.status is.flags (two_back m0 m1 _ (fits 2) (fits 3) is.msg_len) (two_back d0 d1 _ (fits 4) (fits 5) is.data_len) (both_texts reply.server_msg reply.extra rest reply.args is.lengths is.all))
authen-found body reply fits e = absurd cc

pub authen-is_found : (body : List ℕ) (r : Result ReplyFields BodyFault) → ((i : ℕ) → get_or body i 0 < 256) → GivesUnlessMemory is_memory (λ reply. reply) r (authen_reply_of body) → IfOk r (λ reply. body ≡ authen_reply_bytes reply)
authen-is_found body (Ok reply) fits e = authen-found body reply fits e
authen-is_found body (Err fault) fits e = tt

-- a reply without arguments is read again from its texts
texts_again : (head : ReplyHead) (fields : List ℕ) (reply : ReplyFields) → reply.args ≡ [] → reply.status ≡ head.status → reply.flags ≡ head.flags → length reply.server_msg ≡ head.msg_len → length reply.extra ≡ head.data_len → fields ≡ reply.server_msg ++ reply.extra
    → fields_of head [] fields ≡ Ok reply
texts_again head fields reply none status flags msg_len data_len all =
    fields-again head [] fields reply
    (record {
      status = status;
      flags = flags;
      msg_len = msg_len;
      data_len = data_len;
      lengths = ap (λ (l : List (List ℕ)). map length l) none;
      all = ap (λ (l : List (List ℕ)). reply.server_msg ++ reply.extra ++ concat l) none ∙ append-nil (reply.server_msg ++ reply.extra) ∙ sym all;
    })

pub authen-again : (reply : ReplyFields) → IsAuthenReply reply → authen_reply_of (authen_reply_bytes reply) ≡ Ok reply
authen-again reply is =
    let body = authen_reply_bytes reply in
    let fields = reply.server_msg ++ reply.extra in
    let long : ltb (length body) 6 ≡ false = le-ltb _ _ (omega arith) in
    ap (λ (b : Bool). cond b (Err Short) (fields_of (authen_head body) [] fields)) long
    ∙ texts_again (authen_head body) fields reply is.no_args refl refl (sym (small _ is.texts.server_msg)) (sym (small _ is.texts.extra)) refl

-- ---- accounting

acct_parts : (s s' : ℕ) (x x' y y' msg extra rest : List ℕ) → s ≡ s' → x ≡ x' → y ≡ y' → msg ++ extra ≡ rest
    → x ++ y ++ (s ∷ []) ++ msg ++ extra ≡ x' ++ y' ++ (s' ∷ []) ++ rest
acct_parts s s' x x' y y' msg extra rest e0 e1 e2 e3 =
    append_assoc (x ++ y ++ (s ∷ [])) msg extra ∙ rw (e0, e1, e2, e3) refl

acct-found : (body : List ℕ) (reply : ReplyFields) → ((i : ℕ) → get_or body i 0 < 256) → acct_reply_of body ≡ Ok reply → body ≡ acct_reply_bytes reply
acct-found (m0 ∷ m1 ∷ d0 ∷ d1 ∷ s ∷ rest) reply fits e =
    let body = m0 ∷ m1 ∷ d0 ∷ d1 ∷ s ∷ rest in
    let is = fields-found (acct_head body) [] rest reply (not_short (ltb (length body) 5) (fields_of (acct_head body) [] rest) reply e).1 in
    sym (acct_parts reply.status s (to_be_bytes w16 (length reply.server_msg)) (m0 ∷ m1 ∷ []) (to_be_bytes w16 (length reply.extra)) (d0 ∷ d1 ∷ []) reply.server_msg reply.extra rest
    is.status (two_back m0 m1 _ (fits 0) (fits 1) is.msg_len) (two_back d0 d1 _ (fits 2) (fits 3) is.data_len) (both_texts reply.server_msg reply.extra rest reply.args is.lengths is.all))
acct-found body reply fits e = absurd cc

pub acct-is_found : (body : List ℕ) (r : Result ReplyFields BodyFault) → ((i : ℕ) → get_or body i 0 < 256) → GivesUnlessMemory is_memory (λ reply. reply) r (acct_reply_of body) → IfOk r (λ reply. body ≡ acct_reply_bytes reply)
acct-is_found body (Ok reply) fits e = acct-found body reply fits e
acct-is_found body (Err fault) fits e = tt

pub acct-again : (reply : ReplyFields) → IsAcctReply reply → acct_reply_of (acct_reply_bytes reply) ≡ Ok reply
acct-again reply is =
    let body = acct_reply_bytes reply in
    let fields = reply.server_msg ++ reply.extra in
    let long : ltb (length body) 5 ≡ false = le-ltb _ _ (omega arith) in
    ap (λ (b : Bool). cond b (Err Short) (fields_of (acct_head body) [] fields)) long
    ∙ texts_again (acct_head body) fields reply is.no_args refl is.no_flags (sym (small _ is.texts.server_msg)) (sym (small _ is.texts.extra)) refl

-- ---- authorisation

regroup : (p x y lens msg extra joined : List ℕ) → p ++ x ++ y ++ lens ++ msg ++ extra ++ joined ≡ p ++ x ++ y ++ (lens ++ (msg ++ extra ++ joined))
regroup p x y lens msg extra joined = simp append_assoc

author_parts : (s n s' n' : ℕ) (x x' y y' lens msg extra joined rest : List ℕ) → s ≡ s' → n ≡ n' → x ≡ x' → y ≡ y' → lens ++ (msg ++ extra ++ joined) ≡ rest
    → (s ∷ n ∷ []) ++ x ++ y ++ lens ++ msg ++ extra ++ joined ≡ (s' ∷ n' ∷ []) ++ x' ++ y' ++ rest
author_parts s n s' n' x x' y y' lens msg extra joined rest e0 e1 e2 e3 e4 =
    regroup (s ∷ n ∷ []) x y lens msg extra joined ∙ rw (e0, e1, e2, e3, e4) refl

author-found : (body : List ℕ) (reply : ReplyFields) → ((i : ℕ) → get_or body i 0 < 256) → author_reply_of body ≡ Ok reply → body ≡ author_reply_bytes reply
author-found (s ∷ n ∷ m0 ∷ m1 ∷ d0 ∷ d1 ∷ rest) reply fits e =
    let body = s ∷ n ∷ m0 ∷ m1 ∷ d0 ∷ d1 ∷ rest in
    let lens = take n rest in
    let fields = drop n rest in
    let tests = not_short (ltb (length body) (6 + n)) (fields_of (author_head body) lens fields) reply e in
    let long : 6 + n ≤ length body = ltb-false _ _ tests.0 in
    let is = fields-found (author_head body) lens fields reply tests.1 in
    let count : length reply.args ≡ n = sym (length-map reply.args length) ∙ ap length is.lengths ∙ omega (arith, length-take n rest) in
    let after : map length reply.args ++ (reply.server_msg ++ reply.extra ++ concat reply.args) ≡ rest = rw (is.lengths, is.all) (take-append-drop n rest) in
    sym (author_parts reply.status (length reply.args) s n (to_be_bytes w16 (length reply.server_msg)) (m0 ∷ m1 ∷ []) (to_be_bytes w16 (length reply.extra)) (d0 ∷ d1 ∷ []) (map length reply.args) reply.server_msg reply.extra (concat reply.args) rest
    is.status count (two_back m0 m1 _ (fits 2) (fits 3) is.msg_len) (two_back d0 d1 _ (fits 4) (fits 5) is.data_len) after)
author-found body reply fits e = absurd (omega (arith, ltb-false (length body) (6 + get_or body 1 0) (not_short (ltb (length body) (6 + get_or body 1 0)) (fields_of (author_head body) (take (get_or body 1 0) (drop 6 body)) (drop (get_or body 1 0) (drop 6 body))) reply e).0))

pub author-is_found : (body : List ℕ) (r : Result ReplyFields BodyFault) → ((i : ℕ) → get_or body i 0 < 256) → GivesUnlessMemory is_memory (λ reply. reply) r (author_reply_of body) → IfOk r (λ reply. body ≡ author_reply_bytes reply)
author-is_found body (Ok reply) fits e = author-found body reply fits e
author-is_found body (Err fault) fits e = tt

pub author-again : (reply : ReplyFields) → IsAuthorReply reply → author_reply_of (author_reply_bytes reply) ≡ Ok reply
author-again reply is =
    let body = author_reply_bytes reply in
    let n = length reply.args in
    let lens = map length reply.args in
    let fields = reply.server_msg ++ reply.extra ++ concat reply.args in
    let tail = lens ++ reply.server_msg ++ reply.extra ++ concat reply.args in
    let regrouped : tail ≡ lens ++ fields = simp append_assoc in
    let count : length lens ≡ n = length-map reply.args length in
    let front : take n tail ≡ lens = ap (take n) regrouped ∙ take_at lens fields n count in
    let back : drop n tail ≡ fields = ap (drop n) regrouped ∙ drop_at lens fields n count in
    let size : length tail ≡ n + length fields = ap length regrouped ∙ omega (arith, length-append lens fields) in
    let long : ltb (length body) (6 + n) ≡ false = le-ltb _ _ (omega arith) in
    ap (λ (b : Bool). cond b (Err Short) (fields_of (author_head body) (take n tail) (drop n tail))) long
    ∙ fields-again (author_head body) (take n tail) (drop n tail) reply
    (record {
      status = refl;
      flags = is.no_flags;
      msg_len = sym (small _ is.texts.server_msg);
      data_len = sym (small _ is.texts.extra);
      lengths = sym front;
      all = sym back;
    })
