-- All outcomes that a packet can have, and what follows from that.
use Rattle.std.proofs.Common.{◌≡◌, ℕ, ◌+◌, ◌*◌, Bool, true, false, cond, List, [], ◌∷◌, length, Option, None, Some, Result, Ok, Err, refl, sym, subst, ap, ◌∙◌, arith}
use Rattle.std.specs.Prelude.{IfSome, not, nat_le, nat_lt, ◌==◌, ◌||◌, ◌%◌, codes}
use Rattle.std.specs.Result.{result_ok}
use Rattle.std.proofs.lemmas.Bool.{eqb-true, and_parts, false≢true}
use Rattle.tac_wire.specs.Flag.{has_flag}
use Rattle.tac_wire.specs.declared.body.BodyFault.{BodyFault}
use Rattle.tac_authen.specs.declared.start.Start.{Start}
use Rattle.tac_authen.specs.Start.{start_of}
use Rattle.tac_authen.specs.declared.continuation.Continue.{Continue}
use Rattle.tac_authen.specs.Continue.{continue_of}
use Rattle.tac_request.specs.declared.author_request.AuthorRequest.{AuthorRequest}
use Rattle.tac_request.specs.AuthorRequest.{author_request_of}
use Rattle.tac_request.specs.declared.acct_request.AcctRequest.{AcctRequest}
use Rattle.tac_request.specs.AcctRequest.{acct_request_of}
use Rattle.tac_request.specs.declared.line.Requested.{Requested}
use Rattle.tac_request.specs.declared.line.Requested.TheVariants.{Shell, Other, NoSign, NoService}
use Rattle.tac_request.specs.Line.{requested}
use Rattle.tac_request.specs.declared.record.AcctKind.{AcctKind}
use Rattle.tac_request.specs.Record.{kind_of as acct_kind_of, record_of}
use Rattle.tac_conn.specs.declared.ask.AskKind.{AskKind}
use Rattle.tac_conn.specs.declared.ask.AskKind.TheVariants.{Authentication, Authorisation, Accounting}
use Rattle.tac_conn.specs.declared.ask.Ask.{Ask}
use Rattle.tac_conn.specs.declared.ask.Ask.TheVariants.{Authenticate, Authorise, Serve, Account}
use Rattle.tac_conn.specs.declared.ask.Proof.TheVariants.{Plain}
use Rattle.tac_conn.specs.declared.ask.Slot.{Slot}
use Rattle.tac_conn.specs.declared.packet.Packet.{Packet}
use Rattle.tac_conn.specs.declared.reply.ReplyBody.{ReplyBody}
use Rattle.tac_conn.specs.declared.session.Session.{Session}
use Rattle.tac_conn.specs.declared.outcome.Outcome.{Outcome}
use Rattle.tac_conn.specs.declared.outcome.Outcome.TheVariants.{Question, Asks, Silent, Close}
use Rattle.tac_conn.specs.declared.ask.Answer.{Answer}
use Rattle.tac_conn.specs.Ask.{kind_of_ask}
use Rattle.tac_conn.specs.declared.reading.Asker.{Asker}
use Rattle.tac_conn.specs.Asker.{named}
use Rattle.tac_conn.specs.History.{asker_of, session_of}
use Rattle.tac_conn.specs.Standing.{step_of, session_left, HasItsSlot, GrantsNothing}
use Rattle.tac_conn.specs.Reply.{IsReplyTo, is_success, bad_body, fail, authen_error, question_to, secret_question, refusal, acct_error}
use Rattle.tac_conn.specs.Judging.{slot_for, reply_in, ends, breaks, unserved, max_sessions, session_begun, given, chap_proof, is_supported, start_outcome, start_read, session_named, name_outcome, typed_outcome, continue_outcome, continue_read, requested_outcome, request_read, record_outcome, acct_read, kind_of, is_in_turn, body_outcome, kind_outcome, judged, is_body, is_read, leaves_open, reply_of}

-- the outcome of a packet, on a connection that is single or isn't, by how many sessions are open,
-- and its own, if it is
pub data ComesTo (single : Bool) (count : ℕ) (known : Option Session) (packet : Packet) : Outcome → Type 0 where
  -- a START opens a session
  begins : (start : Start) → known ≡ None → start_of packet.body ≡ Ok start → is_read single count known packet ≡ true
      → is_in_turn single count None Authentication packet.header ≡ true → nat_le max_sessions count ≡ false
      → ComesTo single count known packet (let slot = slot_for packet.header Authentication single in Question (reply_in slot (question_to start.user)) (session_begun slot start))
  -- a CONTINUE names the user
  goes_on : (session : Session) (answer : Continue) → known ≡ Some session → given session.asker.user ≡ None → continue_of packet.body ≡ Ok answer
      → is_read single count known packet ≡ true → packet.header.seq ≡ session.last_seq + 1
      → ComesTo single count known packet (let slot = slot_for packet.header Authentication single in Question (reply_in slot secret_question) (session_named slot session answer.user_msg))
  ended : (kind : AskKind) (reply : ReplyBody) → is_success reply ≡ false → ComesTo single count known packet (ends (slot_for packet.header kind single) reply)
  broken : (kind : AskKind) → ComesTo single count known packet (breaks (slot_for packet.header kind single))
  refused : ComesTo single count known packet (unserved packet.header)
  asked : (ask : Ask) → ComesTo single count known packet (Asks ask (slot_for packet.header (kind_of_ask ask) single))
  silent : ComesTo single count known packet Silent
  shut : ComesTo single count known packet Close

module _ (single : Bool) (count : ℕ) (packet : Packet) where
  abbrev Comes : Option Session → Outcome → Type 0
  Comes known outcome = ComesTo single count known packet outcome

  by_test : (known : Option Session) (b : Bool) (x y : Outcome) → (b ≡ true → Comes known x) → (b ≡ false → Comes known y) → Comes known (cond b x y)
  by_test known true x y f g = f refl
  by_test known false x y f g = g refl

  abbrev slot : AskKind → Slot
  slot kind = slot_for packet.header kind single

  -- ---- START

  start_comes : (start : Start) → start_of packet.body ≡ Ok start → is_read single count None packet ≡ true → is_in_turn single count None Authentication packet.header ≡ true
      → Comes None (start_outcome count (slot Authentication) start)
  start_comes start e read turn =
      let here = slot Authentication in
      by_test None (not (is_supported start)) _ _ (λ h. ended Authentication (authen_error (codes "unsupported")) refl)
      (λ h. by_test None (start.authen_type.0 == 1) _ _
      (λ a. by_test None (nat_le max_sessions count) _ _ (λ f. ended Authentication (authen_error (codes "too many sessions")) refl) (λ f. begins start refl e read turn f))
      (λ a. by_test None (here.header.version % 16 == 0) _ _ (λ f. ended Authentication (authen_error (codes "unsupported")) refl)
      (λ f. by_test None (start.authen_type.0 == 2) _ _ (λ g. asked (Authenticate start.user start.service (Plain start.extra)))
      (λ g. by_test None (nat_lt (length start.extra) 17) _ _ (λ s. ended Authentication fail refl) (λ s. asked (Authenticate start.user start.service (chap_proof start.extra)))))))

  -- ---- CONTINUE

  named_comes : (session : Session) (answer : Continue) (typed : List ℕ) → answer.user_msg ≡ typed → given session.asker.user ≡ None → continue_of packet.body ≡ Ok answer
      → is_read single count (Some session) packet ≡ true → packet.header.seq ≡ session.last_seq + 1 → Comes (Some session) (name_outcome (slot Authentication) session typed)
  named_comes session answer [] said e f read turn = ended Authentication fail refl
  named_comes session answer (byte ∷ name) said e f read turn =
      subst (λ (text : List ℕ). Comes (Some session) (Question (reply_in (slot Authentication) secret_question) (session_named (slot Authentication) session text))) said
      (goes_on session answer refl e f read turn)

  typed_comes : (session : Session) (answer : Continue) (user : Option (List ℕ)) → given session.asker.user ≡ user → continue_of packet.body ≡ Ok answer
      → is_read single count (Some session) packet ≡ true → packet.header.seq ≡ session.last_seq + 1 → Comes (Some session) (typed_outcome (slot Authentication) session user answer.user_msg)
  typed_comes session answer None e f read turn = named_comes session answer answer.user_msg refl e f read turn
  typed_comes session answer (Some user) e f read turn = asked (Authenticate user (record { 0 = session.asker.service }) (Plain answer.user_msg))

  answer_comes : (session : Session) (answer : Continue) → continue_of packet.body ≡ Ok answer
      → is_read single count (Some session) packet ≡ true → packet.header.seq ≡ session.last_seq + 1 → Comes (Some session) (continue_outcome (slot Authentication) session answer)
  answer_comes session answer f read turn =
      by_test (Some session) (has_flag 0x01 answer.flags) _ _ (λ h. by_test (Some session) single Silent Close (λ s. silent) (λ s. shut))
      (λ h. typed_comes session answer (given session.asker.user) refl f read turn)

  -- ---- requests

  requested_comes : (user : List ℕ) (asks : Requested) → Comes None (requested_outcome (slot Authorisation) user asks)
  requested_comes user (Shell line) = asked (Authorise user line)
  requested_comes user (Other service protocol) = asked (Serve user service protocol)
  requested_comes user NoSign = ended Authorisation (refusal (codes "bad argument")) refl
  requested_comes user NoService = ended Authorisation (refusal (codes "unsupported service")) refl

  record_comes : (request : AcctRequest) (kind : Option AcctKind) → Comes None (record_outcome (slot Accounting) request kind)
  record_comes request None = ended Accounting (acct_error (codes "bad flags")) refl
  record_comes request (Some kind) = asked (Account (record_of request.user request.args kind))

  -- ---- a body

  module _ (known : Option Session) (kind : AskKind) (served : kind_of packet.header ≡ Some kind) (turn : is_in_turn single count known kind packet.header ≡ true) where
    -- a packet with a body of its kind is read
    well_read : is_body known kind packet.body ≡ true → is_read single count known packet ≡ true
    well_read e = rw served (rw (turn, e) refl)

  continue_comes : (session : Session) → kind_of packet.header ≡ Some Authentication → is_in_turn single count (Some session) Authentication packet.header ≡ true
      → (r : Result Continue BodyFault) → continue_of packet.body ≡ r → Comes (Some session) (continue_read (slot Authentication) session (result_ok r))
  continue_comes session served turn (Err fault) e = broken Authentication
  continue_comes session served turn (Ok answer) e =
      answer_comes session answer e (well_read (Some session) Authentication served turn (rw e refl)) (eqb-true _ _ turn)

  begin_comes : kind_of packet.header ≡ Some Authentication → is_in_turn single count None Authentication packet.header ≡ true
      → (r : Result Start BodyFault) → start_of packet.body ≡ r → Comes None (start_read count (slot Authentication) (result_ok r))
  begin_comes served turn (Err fault) e = broken Authentication
  begin_comes served turn (Ok start) e = start_comes start e (well_read None Authentication served turn (rw e refl)) turn

  request_comes : (r : Result AuthorRequest BodyFault) → Comes None (request_read (slot Authorisation) (result_ok r))
  request_comes (Err fault) = broken Authorisation
  request_comes (Ok request) = requested_comes request.user (requested request.args)

  acct_comes : (r : Result AcctRequest BodyFault) → Comes None (acct_read (slot Accounting) (result_ok r))
  acct_comes (Err fault) = broken Accounting
  acct_comes (Ok request) = record_comes request (acct_kind_of request.flags)

  body_comes : (known : Option Session) (kind : AskKind) → kind_of packet.header ≡ Some kind → is_in_turn single count known kind packet.header ≡ true
      → Comes known (body_outcome count known (slot kind) packet.body)
  body_comes (Some session) Authentication served turn = continue_comes session served turn (continue_of packet.body) refl
  body_comes (Some session) Authorisation served turn = absurd cc
  body_comes (Some session) Accounting served turn = absurd cc
  body_comes None Authentication served turn = begin_comes served turn (start_of packet.body) refl
  body_comes None Authorisation served turn = request_comes (author_request_of packet.body)
  body_comes None Accounting served turn = acct_comes (acct_request_of packet.body)

  kind_comes : (known : Option Session) (kind : Option AskKind) → kind_of packet.header ≡ kind → Comes known (kind_outcome single count known packet kind)
  kind_comes known None served = refused
  kind_comes known (Some kind) served =
      by_test known (is_in_turn single count known kind packet.header) _ _ (λ turn. body_comes known kind served turn) (λ h. shut)

  -- whatever outcome a packet has
  pub judged_comes : (known : Option Session) → Comes known (judged single count known packet)
  unfolding judged
  judged_comes known = by_test known (packet.header.seq == 255) _ _ (λ h. shut) (λ h. kind_comes known (kind_of packet.header) refl)

-- ---- what follows

plain_question : (user : List ℕ) → is_success (question_to user) ≡ false
plain_question [] = refl
plain_question (byte ∷ name) = refl

plain_error : (kind : AskKind) → is_success (bad_body kind) ≡ false
plain_error Authentication = refl
plain_error Authorisation = refl
plain_error Accounting = refl

slot_replies : (packet : Packet) (single : Bool) (kind : AskKind) (body : ReplyBody) → IsReplyTo packet.header (reply_in (slot_for packet.header kind single) body)
slot_replies packet single kind body = record { version = refl; kind = refl; session = refl; seq = refl }

module _ {single : Bool} {count : ℕ} {known : Option Session} {packet : Packet} where
  opens_read : {outcome : Outcome} → ComesTo single count known packet outcome → leaves_open outcome ≡ true → is_read single count known packet ≡ true
  opens_read (begins start none e read turn room) h = read
  opens_read (goes_on session answer some waits e read turn) h = read
  opens_read (ended kind reply plain) h = absurd cc
  opens_read (broken kind) h = absurd cc
  opens_read refused h = absurd cc
  opens_read (asked ask) h = absurd cc
  opens_read silent h = absurd cc
  opens_read shut h = absurd cc

  asks_in_slot : {outcome : Outcome} → ComesTo single count known packet outcome → HasItsSlot (step_of outcome)
  asks_in_slot (begins start none e read turn room) = tt
  asks_in_slot (goes_on session answer some waits e read turn) = tt
  asks_in_slot (ended kind reply plain) = tt
  asks_in_slot (broken kind) = tt
  asks_in_slot refused = tt
  asks_in_slot (asked ask) = refl
  asks_in_slot silent = tt
  asks_in_slot shut = tt

  grants_nothing : {outcome : Outcome} → ComesTo single count known packet outcome → GrantsNothing outcome
  grants_nothing (begins start none e read turn room) = plain_question start.user
  grants_nothing (goes_on session answer some waits e read turn) = refl
  grants_nothing (ended kind reply plain) = plain
  grants_nothing (broken kind) = plain_error kind
  grants_nothing refused = refl
  grants_nothing (asked ask) = tt
  grants_nothing silent = tt
  grants_nothing shut = tt

  replies_to : {outcome : Outcome} (answer : Answer) → ComesTo single count known packet outcome → IfSome (reply_of outcome answer) (IsReplyTo packet.header)
  replies_to answer (begins start none e read turn room) = slot_replies packet single Authentication _
  replies_to answer (goes_on session said some waits e read turn) = slot_replies packet single Authentication _
  replies_to answer (ended kind reply plain) = slot_replies packet single kind _
  replies_to answer (broken kind) = slot_replies packet single kind _
  replies_to answer refused = record { version = refl; kind = refl; session = refl; seq = refl }
  replies_to answer (asked ask) = slot_replies packet single (kind_of_ask ask) _
  replies_to answer silent = tt
  replies_to answer shut = tt

  -- a new session is opened only where there is room, and alone on a connection that isn't single
  opens_in_room : {outcome : Outcome} → ComesTo single count known packet outcome → known ≡ None → leaves_open outcome ≡ true
      → (nat_le max_sessions count ≡ false) × (is_in_turn single count None Authentication packet.header ≡ true)
  opens_in_room (begins start none e read turn room) new h = (room, turn)
  opens_in_room (goes_on session answer some waits e read turn) new h = let no : None ≡ Some session = sym new ∙ some in (cc)
  opens_in_room (ended kind reply plain) new h = absurd cc
  opens_in_room (broken kind) new h = absurd cc
  opens_in_room refused new h = absurd cc
  opens_in_room (asked ask) new h = absurd cc
  opens_in_room silent new h = absurd cc
  opens_in_room shut new h = absurd cc

-- a packet that leaves its session open is read
pub judged_open_is_read : (single : Bool) (count : ℕ) (known : Option Session) (packet : Packet) → leaves_open (judged single count known packet) ≡ true → is_read single count known packet ≡ true
judged_open_is_read single count known packet h = opens_read (judged_comes single count packet known) h

-- each ask has the slot of its kind
pub judged_has_its_slot : (single : Bool) (count : ℕ) (known : Option Session) (packet : Packet) → HasItsSlot (step_of (judged single count known packet))
judged_has_its_slot single count known packet = asks_in_slot (judged_comes single count packet known)

pub judged_grants_nothing : (single : Bool) (count : ℕ) (known : Option Session) (packet : Packet) → GrantsNothing (judged single count known packet)
judged_grants_nothing single count known packet = grants_nothing (judged_comes single count packet known)

pub judged_replies_to : (answer : Answer) (single : Bool) (count : ℕ) (known : Option Session) (packet : Packet) → IfSome (reply_of (judged single count known packet) answer) (IsReplyTo packet.header)
judged_replies_to answer single count known packet = replies_to answer (judged_comes single count packet known)

-- no session is opened beside as many as may be open
pub full_opens_none : (single : Bool) (count : ℕ) (packet : Packet) → nat_le max_sessions count ≡ true → leaves_open (judged single count None packet) ≡ false
full_opens_none single count packet full = by_cases (leaves_open (judged single count None packet)) refl
  where
    by_cases : (b : Bool) → leaves_open (judged single count None packet) ≡ b → b ≡ false
    by_cases false e = refl
    by_cases true e = let room = (opens_in_room (judged_comes single count packet None) refl e).0 in absurd (false≢true (sym room ∙ full))

-- a connection that isn't single opens no second session
pub opens_alone : (count : ℕ) (packet : Packet) → leaves_open (judged false count None packet) ≡ true → count ≡ 0
opens_alone count packet e =
    let turn = (opens_in_room (judged_comes false count packet None) refl e).1 in
    eqb-true count 0 (and_parts (packet.header.seq == 1) (count == 0) turn).1

-- ---- the session after a packet

no_session : (id : ℕ) (trail : List Packet) → session_of id trail ≡ None → trail ≡ []
no_session id [] e = refl
no_session id (packet ∷ earlier) e = absurd cc

same_session : (a b : Session) → a.id ≡ b.id → a.last_seq ≡ b.last_seq → a.asker ≡ b.asker → a ≡ b
same_session a b e f g =
    let made : ℕ → ℕ → Asker → Session = λ id last_seq asker. record { id = id; last_seq = last_seq; asker = asker } in
    ap (λ (x : ℕ). made x a.last_seq a.asker) e ∙ ap (λ (x : ℕ). made b.id x a.asker) f ∙ ap (made b.id b.last_seq) g

module _ (single : Bool) (count id : ℕ) (packet : Packet) (own : packet.header.session ≡ id) where
  begun_is : (start : Start) → start_of packet.body ≡ Ok start → packet.header.seq ≡ 1
      → Some (session_begun (slot_for packet.header Authentication single) start) ≡ session_of id (packet ∷ [])
  begun_is start e seq =
      ap (λ (s : Session). Some s)
      (same_session _ _ own (omega (arith, seq)) (sym (rw e refl)))

  named_is : (trail : List Packet) (session : Session) (answer : Continue) → session_of id trail ≡ Some session → continue_of packet.body ≡ Ok answer → packet.header.seq ≡ session.last_seq + 1
      → Some (session_named (slot_for packet.header Authentication single) session answer.user_msg) ≡ session_of id (packet ∷ trail)
  named_is [] session answer known e seq = absurd cc
  named_is (before ∷ earlier) session answer known e seq =
      let trail = before ∷ earlier in
      let kept : record { id = id; last_seq = 2 * length trail; asker = asker_of trail } ≡ session = cc in
      let last : 2 * length trail ≡ session.last_seq = ap (λ (s : Session). s.last_seq) kept in
      ap (λ (s : Session). Some s)
      (same_session _ _ (ap (λ (s : Session). s.id) (sym kept)) (omega (arith, seq, last))
      (ap (λ (s : Session). named s.asker answer.user_msg) (sym kept) ∙ sym (rw e refl)))

  -- what is kept of a session after a packet is what its packets say
  left_by : {outcome : Outcome} (trail : List Packet) → ComesTo single count (session_of id trail) packet outcome → session_left outcome ≡ session_of id (cond (leaves_open outcome) (packet ∷ trail) [])
  left_by trail (begins start none e read turn room) =
      let first = no_session id trail none in
      begun_is start e (eqb-true _ _ (and_parts (packet.header.seq == 1) (single || count == 0) turn).0) ∙ ap (λ (l : List Packet). session_of id (packet ∷ l)) (sym first)
  left_by trail (goes_on session answer some waits e read turn) = named_is trail session answer some e turn
  left_by trail (ended kind reply plain) = refl
  left_by trail (broken kind) = refl
  left_by trail refused = refl
  left_by trail (asked ask) = refl
  left_by trail silent = refl
  left_by trail shut = refl

  pub session_left-judged : (trail : List Packet) → let outcome = judged single count (session_of id trail) packet in session_left outcome ≡ session_of id (cond (leaves_open outcome) (packet ∷ trail) [])
  session_left-judged trail = left_by trail (judged_comes single count packet (session_of id trail))
