-- What a packet is read as, by what is kept and by the packets, and what its ask has of that.
use Rattle.std.proofs.Common.{◌≡◌, ◌≢◌, ℕ, Bool, true, false, cond, List, [], ◌∷◌, length, Option, None, Some, Result, Ok, Err, IfOk, refl, sym, ap, subst, ◌∙◌}
use Rattle.std.specs.Prelude.{not, codes, nat_le, nat_lt, bytes_eq, slice_get, ◌==◌, ◌%◌}
use Rattle.std.specs.Result.{result_ok}
use Rattle.std.specs.declared.alloc.AllocError.{AllocError}
use Rattle.tac_wire.specs.Flag.{has_flag}
use Rattle.tac_wire.specs.declared.body.BodyFault.{BodyFault}
use Rattle.tac_authen.specs.declared.start.Start.{Start}
use Rattle.tac_authen.specs.Start.{start_of}
use Rattle.tac_authen.specs.declared.continuation.Continue.{Continue}
use Rattle.tac_authen.specs.Continue.{continue_of}
use Rattle.tac_request.specs.declared.author_request.AuthorRequest.{AuthorRequest}
use Rattle.tac_request.specs.AuthorRequest.{author_request_of}
use Rattle.tac_request.specs.declared.acct_request.AcctRequest.{AcctRequest}
use Rattle.tac_request.specs.AcctRequest.{acct_request_of}
use Rattle.tac_request.specs.declared.line.LineOf.{LineOf}
use Rattle.tac_request.specs.declared.line.LineOf.TheVariants.{Line, BadArgument, NotShell}
use Rattle.tac_request.specs.declared.line.Requested.{Requested}
use Rattle.tac_request.specs.declared.line.Requested.TheVariants as asks
use Rattle.tac_request.specs.Line.{line_of, requested, requested_by, without_line, values_under, protocol_of}
use Rattle.tac_request.specs.declared.record.AcctKind.{AcctKind}
use Rattle.tac_request.specs.Record.{kind_of as acct_kind_of}
use Rattle.tac_conn.specs.declared.ask.Ask.{Ask}
use Rattle.tac_conn.specs.declared.ask.AskKind.{AskKind}
use Rattle.tac_conn.specs.declared.ask.AskKind.TheVariants.{Authentication, Authorisation, Accounting}
use Rattle.tac_conn.specs.declared.ask.Slot.{Slot}
use Rattle.tac_conn.specs.declared.conn.Conn.{Conn}
use Rattle.tac_conn.specs.declared.outcome.Outcome.{Outcome}
use Rattle.tac_conn.specs.declared.outcome.Outcome.TheVariants.{Question, Reply, Asks, Silent, Close}
use Rattle.tac_conn.specs.declared.packet.Packet.{Packet}
use Rattle.tac_conn.specs.declared.reading.Asker.{Asker}
use Rattle.tac_conn.specs.declared.reading.Reading.{Reading}
use Rattle.tac_conn.specs.declared.reading.Reading.TheVariants.{GoesOn, Login, Command, Account, BadBody, Unserved, OutOfTurn, Aborted}
use Rattle.tac_conn.specs.declared.reading.Received.{Received}
use Rattle.tac_conn.specs.declared.session.Session.{Session}
use Rattle.tac_conn.specs.declared.step.Step.{Step}
use Rattle.tac_conn.specs.declared.step.Step.TheVariants as steps
use Rattle.tac_conn.specs.Asker.{start_asker, request_asker}
use Rattle.tac_conn.specs.Reply.{refusal}
use Rattle.tac_conn.specs.Judging.{given, ends, slot_for, max_sessions, is_supported, ascii_outcome, at_once_outcome, start_outcome, start_read, name_outcome, typed_outcome, continue_outcome, continue_read, requested_outcome, request_read, record_outcome, acct_read, kind_of, is_in_turn, body_outcome, kind_outcome, judged}
use Rattle.tac_conn.specs.History.{is_single, open_session, open_sessions, judged_after, is_closed, outcome}
use Rattle.tac_conn.specs.Sessions.{session_in}
use Rattle.tac_conn.specs.Standing.{single_with, step_of, outcome_in, Stands}
use Rattle.tac_conn.specs.Reading.{start_as, answer_as, continue_as, line_text, request_as, record_as, body_as, kind_as, read_as, noted, less, rejoined, beside, judged_as}
use Rattle.tac_conn.specs.Received.{read_after, received_as, received, too_late, without_ask, with_ask, IsWholeWith, read_in, judged_in}
use Rattle.tac_conn.proofs.StandingFacts.{not_closed, same_single, outcome_in-outcome, closed_outcome}

-- ---- a request without a line

no_sign : (line : LineOf) (args : List (List ℕ)) → requested_by line args ≡ asks.NoSign → line_text line ≡ None
no_sign (Line line) args e = absurd cc
no_sign BadArgument args e = refl
no_sign NotShell args e = refl

no_service : (line : LineOf) (args : List (List ℕ)) → requested_by line args ≡ asks.NoService → line_text line ≡ None
no_service (Line line) args e = absurd cc
no_service BadArgument args e = refl
no_service NotShell args e = refl

module _ (slot : Slot) (request : AuthorRequest) where
  -- what is said of it, where its arguments make no line
  unlined : (text : Option (List ℕ)) (said : Outcome) → line_text (line_of request.args) ≡ text → judged_as said (request_as (Some request)) ≡ judged_as said (Command (request_asker request) request.args text)
  unlined text said e = ap (λ (t : Option (List ℕ)). judged_as said (Command (request_asker request) request.args t)) e

  pub refused_sign : requested request.args ≡ asks.NoSign → judged_as (requested_outcome slot request.user (requested request.args)) (request_as (Some request))
      ≡ (Command (request_asker request) request.args None, ends slot (refusal (codes "bad argument")))
  refused_sign e =
      ap (λ (r : Requested). judged_as (requested_outcome slot request.user r) (request_as (Some request))) e
      ∙ unlined None _ (no_sign (line_of request.args) request.args e)

  pub refused_service : requested request.args ≡ asks.NoService → judged_as (requested_outcome slot request.user (requested request.args)) (request_as (Some request))
      ≡ (Command (request_asker request) request.args None, ends slot (refusal (codes "unsupported service")))
  refused_service e =
      ap (λ (r : Requested). judged_as (requested_outcome slot request.user r) (request_as (Some request))) e
      ∙ unlined None _ (no_service (line_of request.args) request.args e)

-- ---- a name that was given

pub given_none : (name : List ℕ) → name ≡ [] → given name ≡ None
given_none name e = ap given e

pub given_some : (name : List ℕ) → (name ≡ [] → ⊥) → given name ≡ Some name
given_some [] n = absurd (n refl)
given_some (byte ∷ name) n = refl

given_is : (name user : List ℕ) → given name ≡ Some user → name ≡ user
given_is [] user e = absurd cc
given_is (byte ∷ name) user e = cc

-- ---- beside a step

-- what the judge has beside an outcome is what is beside its step
beside_step : (packet : Packet) (said : Outcome) (reading : Reading) → received_as packet (beside said reading) ≡ without_ask (step_of said) (received_as packet (noted said reading))
beside_step packet (Question reply session) reading = refl
beside_step packet (Reply reply ends) reading = refl
beside_step packet (Asks ask slot) reading = refl
beside_step packet Silent reading = refl
beside_step packet Close reading = refl

module _ (conn : Conn) (packet : Packet) (earlier : List Packet) (stands : Stands conn earlier) where
  -- a packet is read by what is kept as by the packets
  read_in-after : conn.closed ≡ false → read_in conn packet ≡ read_after earlier packet
  unfolding read_in read_after
  read_in-after alive =
      let lists = stands.sessions alive in
      let by_packets : read_in conn packet ≡ read_as (is_single (packet ∷ earlier)) (open_sessions earlier) (open_session earlier packet.header.session) packet =
      ap (λ (b : Bool). read_as b (length conn.sessions) (session_in conn.sessions packet.header.session) packet) (same_single conn packet earlier stands alive)
      ∙ ap (λ (n : ℕ). read_as (is_single (packet ∷ earlier)) n (session_in conn.sessions packet.header.session) packet) lists.count
      ∙ ap (λ (k : Option Session). read_as (is_single (packet ∷ earlier)) (open_sessions earlier) k packet) (lists.each packet.header.session) in
      rw (not_closed conn packet earlier stands alive) by_packets

  pub open_received : conn.closed ≡ false → (result : Result (Received × Step) AllocError) → IfOk result (λ taken. taken.0 ≡ received_as packet (judged_in conn packet).0)
      → IfOk result (λ taken. taken.1 ≡ step_of (outcome_in conn packet)) → IfOk result (λ taken. taken.0 ≡ without_ask taken.1 (received earlier packet))
  unfolding received
  open_received alive (Err error) is went = is
  open_received alive (Ok taken) is went =
      is ∙ beside_step packet (outcome_in conn packet) (read_in conn packet)
      ∙ ap (λ (step : Step). without_ask step (received_as packet (noted (outcome_in conn packet) (read_in conn packet)))) (sym went)
      ∙ ap (λ (said : Outcome). without_ask taken.1 (received_as packet (noted said (read_in conn packet)))) (outcome_in-outcome conn packet earlier stands alive)
      ∙ ap (λ (reading : Reading). without_ask taken.1 (received_as packet (noted (outcome earlier packet) reading))) (read_in-after alive)

  late_read : conn.closed ≡ true → read_after earlier packet ≡ OutOfTurn
  unfolding read_after
  late_read shut = let closed : is_closed earlier ≡ true = sym stands.closed ∙ shut in rw closed refl

  pub late_received : conn.closed ≡ true → too_late packet ≡ without_ask steps.Close (received earlier packet)
  unfolding received
  late_received shut =
      sym (ap (λ (said : Outcome). received_as packet (noted said (read_after earlier packet))) (closed_outcome conn packet earlier stands shut)
      ∙ ap (λ (reading : Reading). received_as packet reading) (late_read shut))

-- ---- what an ask has

-- with what the ask has it is whole again
abbrev Shares : Reading → Outcome → Type 0
Shares reading (Question reply session) = Unit {0}
Shares reading (Reply reply ends) = Unit {0}
Shares reading (Asks ask slot) = rejoined ask (less reading) ≡ reading
Shares reading Silent = Unit {0}
Shares reading Close = Unit {0}

by_test : (b : Bool) (reading : Reading) (x y : Outcome) → Shares reading x → Shares reading y → Shares reading (cond b x y)
by_test true reading x y f g = f
by_test false reading x y f g = g

by_both : (b : Bool) (r s : Reading) (x y : Outcome) → Shares r x → Shares s y → Shares (cond b r s) (cond b x y)
by_both true r s x y f g = f
by_both false r s x y f g = g

module _ (slot : Slot) where
  start_shares : (count : ℕ) (start : Start) → Shares (Login (start_asker start)) (start_outcome count slot start)
  start_shares count start =
      let it = Login (start_asker start) in
      by_test (not (is_supported start)) it _ _ tt
      (by_test (start.authen_type.0 == 1) it _ _ (by_test (nat_le max_sessions count) it _ _ tt tt)
      (by_test (slot.header.version % 16 == 0) it _ _ tt
      (by_test (start.authen_type.0 == 2) it _ _ refl (by_test (nat_lt (length start.extra) 17) it _ _ tt refl))))

  begin_shares : (count : ℕ) (r : Result Start BodyFault) → Shares (start_as (result_ok r)) (start_read count slot (result_ok r))
  begin_shares count (Err fault) = tt
  begin_shares count (Ok start) = start_shares count start

  name_shares : (session : Session) (typed : List ℕ) (reading : Reading) → Shares reading (name_outcome slot session typed)
  name_shares session [] reading = tt
  name_shares session (byte ∷ name) reading = tt

  typed_shares : (session : Session) (user : Option (List ℕ)) (typed : List ℕ) → given session.asker.user ≡ user → Shares (Login session.asker) (typed_outcome slot session user typed)
  typed_shares session None typed e = name_shares session typed (Login session.asker)
  typed_shares session (Some user) typed e =
      ap (λ (name : List ℕ). Login (record session.asker { user = name })) (sym (given_is session.asker.user user e))

  continue_shares : (session : Session) (r : Result Continue BodyFault) → Shares (continue_as session.asker (result_ok r)) (continue_read slot session (result_ok r))
  continue_shares session (Err fault) = tt
  continue_shares session (Ok answer) =
      by_both (has_flag 0x01 answer.flags) _ _ _ _ (by_test slot.single Aborted Silent Close tt tt) (typed_shares session (given session.asker.user) answer.user_msg refl)

  line_shares : (asker : Asker) (user : List ℕ) (args : List (List ℕ)) (line : LineOf) → asker.user ≡ user → Shares (Command asker args (line_text line)) (requested_outcome slot user (requested_by line args))
  line_shares asker user args (Line line) e = ap (λ (name : List ℕ). Command (record asker { user = name }) args (Some line)) (sym e)
  line_shares asker user args BadArgument e = tt
  line_shares asker user args NotShell e = without (slice_get (values_under (codes "service") args) 0) (protocol_of args)
    where
      other : (b : Bool) (service : List ℕ) (protocol : Option (List ℕ)) → Shares (Command asker args None) (requested_outcome slot user (cond b asks.NoService (asks.Other service protocol)))
      other true service protocol = tt
      other false service protocol = ap (λ (name : List ℕ). Command (record asker { user = name }) args None) (sym e)

      without : (first protocol : Option (List ℕ)) → Shares (Command asker args None) (requested_outcome slot user (without_line first protocol))
      without None protocol = tt
      without (Some service) protocol = other (bytes_eq service (codes "shell")) service protocol

  request_shares : (r : Result AuthorRequest BodyFault) → Shares (request_as (result_ok r)) (request_read slot (result_ok r))
  request_shares (Err fault) = tt
  request_shares (Ok request) = line_shares (request_asker request) request.user request.args (line_of request.args) refl

  record_shares : (request : AcctRequest) (kind : Option AcctKind) → acct_kind_of request.flags ≡ kind → Shares (record_as (Some request)) (record_outcome slot request kind)
  record_shares request None e = tt
  record_shares request (Some kind) e = refl

  acct_shares : (r : Result AcctRequest BodyFault) → Shares (record_as (result_ok r)) (acct_read slot (result_ok r))
  acct_shares (Err fault) = tt
  acct_shares (Ok request) = record_shares request (acct_kind_of request.flags) refl

module _ (single : Bool) (count : ℕ) (packet : Packet) where
  abbrev here : AskKind → Slot
  here kind = slot_for packet.header kind single

  body_shares : (known : Option Session) (kind : AskKind) → Shares (body_as known kind packet.body) (body_outcome count known (here kind) packet.body)
  body_shares (Some session) kind = continue_shares (here kind) session (continue_of packet.body)
  body_shares None Authentication = begin_shares (here Authentication) count (start_of packet.body)
  body_shares None Authorisation = request_shares (here Authorisation) (author_request_of packet.body)
  body_shares None Accounting = acct_shares (here Accounting) (acct_request_of packet.body)

  kind_shares : (known : Option Session) (kind : Option AskKind) → Shares (kind_as single count known packet kind) (kind_outcome single count known packet kind)
  kind_shares known None = tt
  kind_shares known (Some kind) = by_both (is_in_turn single count known kind packet.header) _ _ _ _ (body_shares known kind) tt

  judged_shares : (known : Option Session) → Shares (read_as single count known packet) (judged single count known packet)
  unfolding read_as judged
  judged_shares known = by_both (packet.header.seq == 255) _ _ _ _ tt (kind_shares known (kind_of packet.header))

module _ (earlier : List Packet) (packet : Packet) where
  outcome_shares : Shares (read_after earlier packet) (outcome earlier packet)
  unfolding read_after outcome judged_after
  outcome_shares = by_both (is_closed earlier) _ _ _ _ tt (judged_shares (is_single (packet ∷ earlier)) (open_sessions earlier) packet (open_session earlier packet.header.session))

  whole_with : (ask : Ask) (slot : Slot) → IsWholeWith ask slot earlier packet
  unfolding received
  whole_with ask slot e =
      let reading = read_after earlier packet in
      let told : noted (outcome earlier packet) reading ≡ reading = ap (λ (said : Outcome). noted said reading) e in
      let shared : rejoined ask (less reading) ≡ reading = subst (Shares reading) e outcome_shares in
      ap (λ (r : Reading). received_as packet r) (ap (λ (r : Reading). rejoined ask (less r)) told ∙ shared ∙ sym told)

pub is_whole_with : (ask : Ask) (slot : Slot) (earlier : List Packet) (packet : Packet) → IsWholeWith ask slot earlier packet
is_whole_with ask slot earlier packet = whole_with earlier packet ask slot
