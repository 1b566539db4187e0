-- What a client writes is read by the server as the same.
use Rattle.std.proofs.Common.{◌≡◌, ℕ, ◌+◌, ◌≤◌, Bool, true, false, cond, ltb, eqb, List, ◌++◌, length, take, drop, Result, Ok, Err, refl, ap, sym, ◌∙◌, arith}
use Rattle.std.specs.Prelude.{IfOk}
use Rattle.std.specs.Int.{w16, to_be_bytes, from_be_bytes}
use Rattle.std.proofs.lemmas.Bool.{or_parts, ltb-false, le-ltb, eq-eqb}
use Rattle.std.proofs.lemmas.List.{take_at, drop_at, length-append}
use Rattle.std.proofs.lemmas.Nat.{from_be_bytes-to_be_bytes_2}
use Rattle.basics.specs.Memory.{GivesUnlessMemory}
use Rattle.tac_wire.specs.declared.body.BodyFault.{BodyFault}
use Rattle.tac_wire.specs.declared.body.BodyFault.TheVariants.{Short, LengthSum}
use Rattle.tac_wire.proofs.CutFacts.{cut_laws}
use Rattle.tac_authen.specs.declared.start.Start.{Start}
use Rattle.tac_authen.specs.Start.{start_bytes, start_of}
use Rattle.tac_authen.proofs.StartFacts.{start_of-start_bytes}
use Rattle.tac_authen.specs.declared.continuation.Continue.{Continue}
use Rattle.tac_authen.specs.Continue.{continue_bytes, continue_of}
use Rattle.tac_request.specs.declared.author_request.AuthorRequest.{AuthorRequest}
use Rattle.tac_request.specs.AuthorRequest.{author_request, author_request_of}
use Rattle.tac_request.specs.AcctRequest.{acct_request, acct_request_of, with_flags}
use Rattle.tac_request.proofs.RequestFacts.{author_request_of-author_request}
use Rattle.tac_request.proofs.AcctRequestFacts.{acct_request_of-acct_request}
use Rattle.tac_ask.specs.declared.fault.AskFault.{AskFault}
use Rattle.tac_ask.specs.Bodies.{is_memory, body_or_fault, is_long_start, is_long_continue, is_long_request, start_body, continue_body, author_body, acct_body}

-- a body that is there is the wanted one, of what isn't too long
is_wanted : (b : Bool) (wanted body : List ℕ) → body_or_fault b wanted ≡ Ok body → (b ≡ false) × (wanted ≡ body)
is_wanted true wanted body e = absurd cc
is_wanted false wanted body e = (refl, cc)

pub start_read : (start : Start) (r : Result (List ℕ) AskFault) → GivesUnlessMemory is_memory (λ body. body) r (start_body start) → IfOk r (λ body. start_of body ≡ Ok start)
start_read start (Ok body) e =
    let wanted = is_wanted (is_long_start start) (start_bytes start) body e in
    ap start_of (sym wanted.1) ∙ start_of-start_bytes cut_laws start
start_read start (Err fault) e = tt

pub author_read : (request : AuthorRequest) (r : Result (List ℕ) AskFault) → GivesUnlessMemory is_memory (λ body. body) r (author_body request) → IfOk r (λ body. author_request_of body ≡ Ok request)
author_read request (Ok body) e =
    let wanted = is_wanted (is_long_request request) (author_request request) body e in
    ap author_request_of (sym wanted.1) ∙ author_request_of-author_request cut_laws request
author_read request (Err fault) e = tt

pub acct_read : (flags : ℕ) (request : AuthorRequest) (r : Result (List ℕ) AskFault) → GivesUnlessMemory is_memory (λ body. body) r (acct_body flags request)
    → IfOk r (λ body. acct_request_of body ≡ Ok (with_flags flags request))
acct_read flags request (Ok body) e =
    let wanted = is_wanted (is_long_request request) (acct_request (with_flags flags request)) body e in
    ap acct_request_of (sym wanted.1) ∙ acct_request_of-acct_request cut_laws (with_flags flags request)
acct_read flags request (Err fault) e = tt

continue_of-continue_bytes : (answer : Continue) → length answer.user_msg ≤ 65535 → length answer.extra ≤ 65535 → continue_of (continue_bytes answer) ≡ Ok answer
continue_of-continue_bytes answer short_msg short_data =
    let msg = answer.user_msg in
    let extra = answer.extra in
    let body = continue_bytes answer in
    let m : from_be_bytes w16 (to_be_bytes w16 (length msg)) ≡ length msg = from_be_bytes-to_be_bytes_2 (length msg) (omega arith) in
    let d : from_be_bytes w16 (to_be_bytes w16 (length extra)) ≡ length extra = from_be_bytes-to_be_bytes_2 (length extra) (omega arith) in
    let size = length-append msg extra in
    let long : ltb (length body) 5 ≡ false = le-ltb _ _ (omega arith) in
    let whole : eqb (length body) (5 + length msg + length extra) ≡ true = eq-eqb _ _ (omega arith) in
    let answer_of : ℕ → ℕ → List ℕ → List ℕ → Result Continue BodyFault = λ a b x y.
    cond (ltb (length body) 5) (Err Short) (cond (eqb (length body) (5 + a + b)) (Ok (record answer { user_msg = x; extra = y })) (Err LengthSum)) in
    let told = from_be_bytes w16 (to_be_bytes w16 (length msg)) in
    let told_data = from_be_bytes w16 (to_be_bytes w16 (length extra)) in
    let one : continue_of body ≡ answer_of (length msg) told_data (take (length msg) (msg ++ extra)) (drop (length msg) (msg ++ extra))
    = ap (λ (k : ℕ). answer_of k told_data (take k (msg ++ extra)) (drop k (msg ++ extra))) m in
    let two = ap (λ (k : ℕ). answer_of (length msg) k (take (length msg) (msg ++ extra)) (drop (length msg) (msg ++ extra))) d in
    let three = ap (λ (x : List ℕ). answer_of (length msg) (length extra) x (drop (length msg) (msg ++ extra))) (take_at msg extra (length msg) refl) in
    let four = ap (answer_of (length msg) (length extra) msg) (drop_at msg extra (length msg) refl) in
    one ∙ two ∙ three ∙ four ∙ rw (long, whole) refl

pub continue_read : (answer : Continue) (r : Result (List ℕ) AskFault) → GivesUnlessMemory is_memory (λ body. body) r (continue_body answer) → IfOk r (λ body. continue_of body ≡ Ok answer)
continue_read answer (Ok body) e =
    let wanted = is_wanted (is_long_continue answer) (continue_bytes answer) body e in
    let short = or_parts (ltb 65535 (length answer.user_msg)) (ltb 65535 (length answer.extra)) wanted.0 in
    ap continue_of (sym wanted.1) ∙ continue_of-continue_bytes answer (ltb-false 65535 (length answer.user_msg) short.0) (ltb-false 65535 (length answer.extra) short.1)
continue_read answer (Err fault) e = tt
