-- How well packets fit keys, and which key they show.
use Rattle.std.proofs.Common.{◌≡◌, ◌≤◌, ◌<◌, ℕ, Bool, true, false, cond, ltb, List, length, take, Option, Some, None, Result, Ok, Err, refl, ap, ◌∙◌, arith}
use Rattle.std.proofs.lemmas.Bool.{le-ltb, lt-ltb}
use Rattle.tac_wire.specs.declared.body.BodyFault.{BodyFault}
use Rattle.tac_wire.specs.declared.frame.Frame.{Frame}
use Rattle.tac_wire.specs.declared.header.Header.{Header}
use Rattle.tac_wire.specs.Pad.{seed, digests, xored, padded}
use Rattle.tac_wire.proofs.PadFacts.{length-pad, length-xored, xored-xored}
use Rattle.tac_wire.proofs.CutFacts.{cut_laws}
use Rattle.tac_authen.specs.Start.{start_of}
use Rattle.tac_authen.proofs.StartFacts.{start_of-start_bytes}
use Rattle.tac_request.specs.AuthorRequest.{author_request_of}
use Rattle.tac_request.specs.AcctRequest.{acct_request_of}
use Rattle.tac_request.proofs.RequestFacts.{author_request_of-author_request}
use Rattle.tac_request.proofs.AcctRequestFacts.{acct_request_of-acct_request}
use Rattle.tac_first.specs.InRange.{is_start_in_range, is_author_request_in_range, is_acct_request_in_range}
use Rattle.tac_first.specs.Choice.{grade, grade_as, fits, chosen, chosen_of, IsSent, of_start, of_author_request, of_acct_request, under, ShowsItsKey}
use Rattle.tac_first.specs.declared.keys.Keys.{Keys}
use Rattle.tac_first.specs.declared.keys.Shown.TheVariants.{Present, Old}

-- ---- no packet fits better than by 2

grade_most : {Body : Type 0} (is_in_range : Body → Bool) (r : Result Body BodyFault) → grade is_in_range r ≤ 2
grade_most is_in_range (Ok body) = by (is_in_range body)
  where
    by : (b : Bool) → cond b 2 1 ≤ 2
    by true = omega arith
    by false = omega arith
grade_most is_in_range (Err fault) = omega arith

picked_most : (a b c : Bool) (x y z : ℕ) → x ≤ 2 → y ≤ 2 → z ≤ 2 → cond a x (cond b y (cond c z 0)) ≤ 2
picked_most true b c x y z hx hy hz = hx
picked_most false true c x y z hx hy hz = hy
picked_most false false true x y z hx hy hz = hz
picked_most false false false x y z hx hy hz = omega arith

fits_most : (key : List ℕ) (frame : Frame) → fits key frame ≤ 2
fits_most key frame =
    let body = padded frame.header key frame.body in
    picked_most _ _ _ (grade is_start_in_range (start_of body)) (grade is_author_request_in_range (author_request_of body)) (grade is_acct_request_in_range (acct_request_of body))
    (grade_most is_start_in_range (start_of body)) (grade_most is_author_request_in_range (author_request_of body)) (grade_most is_acct_request_in_range (acct_request_of body))

-- ---- so one that fits the present key by 2 shows it

pub stays_of : (present : List ℕ) (old : Option (List ℕ)) (frame : Frame) → fits present frame ≡ 2 → chosen_of present old frame ≡ Present
stays_of present None frame e = refl
stays_of present (Some old) frame e =
    let most = fits_most old frame in
    let no : ltb (fits present frame) (fits old frame) ≡ false = le-ltb _ _ (omega (arith, e, most)) in
    ap (λ b. cond b Old Present) no

stays : (keys : Keys) (frame : Frame) → fits keys.present frame ≡ 2 → chosen keys frame ≡ Present
stays keys frame e = stays_of keys.present keys.old frame e

changes : (keys : Keys) (key : List ℕ) (frame : Frame) → keys.old ≡ Some key → fits keys.present frame < fits key frame → chosen keys frame ≡ Old
changes keys key frame e lt =
    ap (λ (old : Option (List ℕ)). chosen_of keys.present old frame) e ∙ ap (λ b. cond b Old Present) (lt-ltb _ _ lt)

-- ---- what a device sends fits its key

padded-padded : (header : Header) (key bytes : List ℕ) → padded header key (padded header key bytes) ≡ bytes
padded-padded header key bytes =
    let s = seed header key in
    let long : length bytes ≤ length (take (length bytes) (digests s (length bytes))) = omega (arith, length-pad s (length bytes)) in
    let same : length (padded header key bytes) ≡ length bytes = length-xored bytes _ long in
    ap (λ n. xored (padded header key bytes) (take n (digests s n))) same ∙ xored-xored bytes _ long

graded : {Body : Type 0} (is_in_range : Body → Bool) (r : Result Body BodyFault) (body : Body) → r ≡ Ok body → is_in_range body ≡ true → grade is_in_range r ≡ 2
graded is_in_range r body e h = ap (grade is_in_range) e ∙ ap (λ b. cond b 2 1) h

sent_fits : (kind : ℕ) (body : List ℕ) → IsSent kind body → grade_as kind body ≡ 2
sent_fits kind body (of_start start h) = graded is_start_in_range _ start (start_of-start_bytes cut_laws start) h
sent_fits kind body (of_author_request request h) = graded is_author_request_in_range _ request (author_request_of-author_request cut_laws request) h
sent_fits kind body (of_acct_request request h) = graded is_acct_request_in_range _ request (acct_request_of-acct_request cut_laws request) h

own_fits : (key : List ℕ) (header : Header) (body : List ℕ) → IsSent header.kind.0 body → fits key (under key header body) ≡ 2
own_fits key header body sent = ap (grade_as header.kind.0) (padded-padded header key body) ∙ sent_fits header.kind.0 body sent

pub shows_its_key : (keys : Keys) → ShowsItsKey keys
shows_its_key keys = record {
  present = λ header body sent. stays keys (under keys.present header body) (own_fits keys.present header body sent);
  old = λ key header body e sent lt.
      let own = own_fits key header body sent in
      changes keys key (under key header body) e (omega (arith, own, lt));
}
