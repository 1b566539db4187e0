-- The outcome of one packet, by its session (RFC 8907, sections 4.1 to 4.4, and 5 to 7).
use Rattle.std.specs.Prelude.{ℕ, ◌+◌, ◌-◌, List, [], ◌∷◌, length, drop, codes, slice_index}
use Rattle.std.specs.Prelude.{slice_range, Bool, true, false, not, ◌&&◌, ◌||◌, ◌==◌, nat_lt, nat_le}
use Rattle.std.specs.Prelude.{Option, Some, None, is_ok, if◌then◌else◌}
use Rattle.std.specs.Option.{option_map_or}
use Rattle.std.specs.Result.{result_ok}
use Rattle.tac_wire.specs.Flag.{has_flag}
use Rattle.tac_wire.specs.Header.{tac_plus_authen, tac_plus_author, tac_plus_acct, first_seq_no}
use Rattle.tac_wire.specs.Header.{last_seq_no, single_connect_flag, minor_version}
use Rattle.tac_wire.specs.Header.{minor_ver_default}
use Rattle.tac_wire.specs.declared.header.Header.{Header}
use Rattle.tac_authen.specs.declared.start.Start.{Start}
use Rattle.tac_authen.specs.Start.{start_of, authen_login, authen_type_ascii}
use Rattle.tac_authen.specs.Start.{authen_type_pap, authen_type_chap}
use Rattle.tac_authen.specs.declared.continuation.Continue.{Continue}
use Rattle.tac_authen.specs.Continue.{continue_of, continue_flag_abort}
use Rattle.tac_request.specs.declared.author_request.AuthorRequest.{AuthorRequest}
use Rattle.tac_request.specs.AuthorRequest.{author_request_of}
use Rattle.tac_request.specs.declared.acct_request.AcctRequest.{AcctRequest}
use Rattle.tac_request.specs.AcctRequest.{acct_request_of}
use Rattle.tac_request.specs.declared.line.Requested.{Requested}
use Rattle.tac_request.specs.declared.line.Requested.TheVariants.{Shell, Other, NoSign, NoService}
use Rattle.tac_request.specs.Line.{requested}
use Rattle.tac_request.specs.declared.record.AcctKind.{AcctKind}
use Rattle.tac_request.specs.Record.{kind_of as acct_kind_of, record_of}
use Rattle.tac_conn.specs.declared.ask.AskKind.{AskKind}
use Rattle.tac_conn.specs.declared.ask.AskKind.TheVariants.{Authentication, Authorisation}
use Rattle.tac_conn.specs.declared.ask.AskKind.TheVariants.{Accounting}
use Rattle.tac_conn.specs.declared.ask.Ask.TheVariants.{Authenticate, Authorise, Serve, Account}
use Rattle.tac_conn.specs.declared.ask.Answer.{Answer}
use Rattle.tac_conn.specs.declared.ask.Proof.{Proof}
use Rattle.tac_conn.specs.declared.ask.Proof.TheVariants.{Plain, Chap}
use Rattle.tac_conn.specs.declared.ask.Slot.{Slot}
use Rattle.tac_conn.specs.declared.packet.Packet.{Packet}
use Rattle.tac_conn.specs.declared.reply.Reply.{Reply as ReplyValue}
use Rattle.tac_conn.specs.declared.reply.ReplyBody.{ReplyBody}
use Rattle.tac_conn.specs.declared.reply.ReplyBody.TheVariants.{Empty}
use Rattle.tac_conn.specs.declared.session.Session.{Session}
use Rattle.tac_conn.specs.declared.outcome.Outcome.{Outcome}
use Rattle.tac_conn.specs.declared.outcome.Outcome.TheVariants.{Question, Reply, Asks, Silent}
use Rattle.tac_conn.specs.declared.outcome.Outcome.TheVariants.{Close}
use Rattle.tac_conn.specs.Asker.{start_asker, named}
use Rattle.tac_conn.specs.Reply.{fail, authen_error, question_to, secret_question, refusal}
use Rattle.tac_conn.specs.Reply.{acct_error, bad_body, answer_body}

-- ---- the outcome of a packet

-- whether its session is open from then on
abbrev pub leaves_open : Outcome → Bool
leaves_open (Question reply session) = true
leaves_open (Reply reply closes) = false
leaves_open (Asks ask slot) = false
leaves_open Silent = false
leaves_open Close = false

-- whether the connection closes, at once or with the answer
abbrev pub closes : Outcome → Bool
closes (Question reply session) = false
closes (Reply reply ends) = ends
closes (Asks ask slot) = not slot.single
closes Silent = false
closes Close = true

-- ---- replies

-- the flags of replies
abbrev pub reply_flags : Bool → ℕ
reply_flags true = single_connect_flag
reply_flags false = 0

-- the place of the reply to a packet: it has the packet's version, type and
-- session_id, and the next seq_no
abbrev pub slot_for : Header → AskKind → Bool → Slot
slot_for header kind single =
    record {
      header = record header { seq = header.seq + 1; flags = reply_flags single; length = 0 };
      kind = kind;
      single = single;
    }

abbrev pub reply_in : Slot → ReplyBody → ReplyValue
reply_in slot body = record { header = slot.header; body = body }

-- a session's last reply closes a connection that isn't single
abbrev pub ends : Slot → ReplyBody → Outcome
ends slot body = Reply (reply_in slot body) (not slot.single)

-- an invalid body closes the connection, single or not
abbrev pub breaks : Slot → Outcome
breaks slot = Reply (reply_in slot (bad_body slot.kind)) true

-- a type that isn't served: the header again, with the next seq_no and no body
abbrev pub unserved : Header → Outcome
unserved header =
    Reply (record { header = record header { seq = header.seq + 1; length = 0 }; body = Empty })
    true

-- the reply to a packet, by the desk's answer where it is asked; none where nothing is sent
abbrev pub reply_of : Outcome → Answer → Option ReplyValue
reply_of (Question reply session) answer = Some reply
reply_of (Reply reply ends) answer = Some reply
reply_of (Asks ask slot) answer = Some (reply_in slot (answer_body answer))
reply_of Silent answer = None
reply_of Close answer = None

-- ---- authentication: START (section 5.1)

-- how many sessions are open at once at most
abbrev pub max_sessions : ℕ
max_sessions = 16

-- a name, where it isn't empty
abbrev pub given : List ℕ → Option (List ℕ)
given [] = None
given (byte ∷ name) = Some (byte ∷ name)

-- the session that a START opens: who logs in is known from then on
abbrev pub session_begun : Slot → Start → Session
session_begun slot start =
    record {
      id = slot.header.session;
      last_seq = slot.header.seq;
      asker = start_asker start;
    }

-- ASCII: the name is asked for, or the password
abbrev pub ascii_outcome : ℕ → Slot → Start → Outcome
ascii_outcome count slot start =
    if nat_le max_sessions count then ends slot (authen_error (codes "too many sessions"))
    else Question (reply_in slot (question_to start.user)) (session_begun slot start)

-- the length of an MD5 digest, as which CHAP responds
abbrev pub chap_response_len : ℕ
chap_response_len = 16

-- the id, the challenge, and the response at the end
abbrev pub chap_proof : List ℕ → Proof
chap_proof extra =
    let response_at = length extra - chap_response_len in
    Chap (slice_index extra 0) (slice_range extra 1 response_at) (drop response_at extra)

abbrev pub chap_outcome : Slot → Start → Outcome
chap_outcome slot start =
    if nat_lt (length start.extra) (1 + chap_response_len) then ends slot fail
    else Asks (Authenticate start.user start.service (chap_proof start.extra)) slot

abbrev pub pap_outcome : Slot → Start → Outcome
pap_outcome slot start = Asks (Authenticate start.user start.service (Plain start.extra)) slot

-- PAP and CHAP have minor version 1, and no question
abbrev pub at_once_outcome : Slot → Start → Outcome
at_once_outcome slot start =
    if minor_version slot.header.version == minor_ver_default
    then ends slot (authen_error (codes "unsupported"))
    else if start.authen_type.0 == authen_type_pap then pap_outcome slot start
    else chap_outcome slot start

-- LOGIN, by ASCII, PAP or CHAP
abbrev pub is_supported : Start → Bool
is_supported start =
    start.action.0 == authen_login
    && (start.authen_type.0 == authen_type_ascii || start.authen_type.0 == authen_type_pap
    || start.authen_type.0 == authen_type_chap)

abbrev pub start_outcome : ℕ → Slot → Start → Outcome
start_outcome count slot start =
    if not (is_supported start) then ends slot (authen_error (codes "unsupported"))
    else if start.authen_type.0 == authen_type_ascii then ascii_outcome count slot start
    else at_once_outcome slot start

abbrev pub start_read : ℕ → Slot → Option Start → Outcome
start_read count slot None = breaks slot
start_read count slot (Some start) = start_outcome count slot start

-- ---- authentication: CONTINUE (section 5.3)

-- the client gives up
abbrev pub aborted : Slot → Outcome
aborted slot = if slot.single then Silent else Close

-- the session once its user was named
abbrev pub session_named : Slot → Session → List ℕ → Session
session_named slot session name =
    record session { last_seq = slot.header.seq; asker = named session.asker name }

-- the name that was asked for: the empty text is no name
abbrev pub name_outcome : Slot → Session → List ℕ → Outcome
name_outcome slot session [] = ends slot fail
name_outcome slot session (byte ∷ name) =
    Question (reply_in slot secret_question) (session_named slot session (byte ∷ name))

-- what was typed, where the session waits for a name, or for the password of this user
abbrev pub typed_outcome : Slot → Session → Option (List ℕ) → List ℕ → Outcome
typed_outcome slot session None typed = name_outcome slot session typed
typed_outcome slot session (Some user) typed =
    Asks (Authenticate user (record { 0 = session.asker.service }) (Plain typed)) slot

abbrev pub continue_outcome : Slot → Session → Continue → Outcome
continue_outcome slot session answer =
    if has_flag continue_flag_abort answer.flags then aborted slot
    else typed_outcome slot session (given session.asker.user) answer.user_msg

abbrev pub continue_read : Slot → Session → Option Continue → Outcome
continue_read slot session None = breaks slot
continue_read slot session (Some answer) = continue_outcome slot session answer

-- ---- authorisation (section 6)

-- the desk is asked where a line, or another service than a shell, is named
abbrev pub requested_outcome : Slot → List ℕ → Requested → Outcome
requested_outcome slot user NoSign = ends slot (refusal (codes "bad argument"))
requested_outcome slot user NoService = ends slot (refusal (codes "unsupported service"))
requested_outcome slot user (Shell line) = Asks (Authorise user line) slot
requested_outcome slot user (Other service protocol) = Asks (Serve user service protocol) slot

abbrev pub request_read : Slot → Option AuthorRequest → Outcome
request_read slot None = breaks slot
request_read slot (Some request) = requested_outcome slot request.user (requested request.args)

-- ---- accounting (section 7)

-- a record is to be stored, where the flags are those of a kind of record
abbrev pub record_outcome : Slot → AcctRequest → Option AcctKind → Outcome
record_outcome slot request None = ends slot (acct_error (codes "bad flags"))
record_outcome slot request (Some kind) =
    Asks (Account (record_of request.user request.args kind)) slot

abbrev pub acct_read : Slot → Option AcctRequest → Outcome
acct_read slot None = breaks slot
acct_read slot (Some request) = record_outcome slot request (acct_kind_of request.flags)

-- ---- a packet (sections 4.1 to 4.4)

-- the three types; no other is served
abbrev pub kind_of : Header → Option AskKind
kind_of header =
    if header.kind.0 == tac_plus_authen then Some Authentication
    else if header.kind.0 == tac_plus_author then Some Authorisation
    else if header.kind.0 == tac_plus_acct then Some Accounting
    else None

-- a packet of an open session is one of authentication, and has the seq_no after the
-- last reply's. Any other begins a session: it has the first seq_no, and on a connection that
-- isn't single no session is open
abbrev pub is_in_turn : Bool → ℕ → Option Session → AskKind → Header → Bool
is_in_turn single count (Some session) Authentication header = header.seq == session.last_seq + 1
is_in_turn single count (Some session) Authorisation header = false
is_in_turn single count (Some session) Accounting header = false
is_in_turn single count None kind header = header.seq == first_seq_no && (single || count == 0)

-- the body of a packet that begins a session, by how many are open
abbrev pub opening_outcome : AskKind → ℕ → Slot → List ℕ → Outcome
opening_outcome Authentication count slot body = start_read count slot (result_ok (start_of body))
opening_outcome Authorisation count slot body =
    request_read slot (result_ok (author_request_of body))
opening_outcome Accounting count slot body = acct_read slot (result_ok (acct_request_of body))

-- the body of a packet that comes in its turn
abbrev pub body_outcome : ℕ → Option Session → Slot → List ℕ → Outcome
body_outcome count (Some session) slot body =
    continue_read slot session (result_ok (continue_of body))
body_outcome count None slot body = opening_outcome slot.kind count slot body

abbrev pub kind_outcome : Bool → ℕ → Option Session → Packet → Option AskKind → Outcome
kind_outcome single count session packet None = unserved packet.header
kind_outcome single count session packet (Some kind) =
    if is_in_turn single count session kind packet.header
    then body_outcome count session (slot_for packet.header kind single) packet.body
    else Close

-- the outcome of a packet on a connection that is single or isn't, by how many sessions are open,
-- and by its own, if that is open. After the last seq_no, none is left for a reply
unfoldable pub judged : Bool → ℕ → Option Session → Packet → Outcome
judged single count session packet =
    if packet.header.seq == last_seq_no then Close
    else kind_outcome single count session packet (kind_of packet.header)

-- ---- what takes memory

abbrev pub is_first_body : AskKind → List ℕ → Bool
is_first_body Authentication body = is_ok (start_of body)
is_first_body Authorisation body = is_ok (author_request_of body)
is_first_body Accounting body = is_ok (acct_request_of body)

-- whether a body is one of its kind
abbrev pub is_body : Option Session → AskKind → List ℕ → Bool
is_body (Some session) kind body = is_ok (continue_of body)
is_body None kind body = is_first_body kind body

-- whether a packet is read: it is of a type that is served, comes in its turn, and its
-- body is one of its kind. All
-- others are refused as they stand
abbrev pub is_read : Bool → ℕ → Option Session → Packet → Bool
is_read single count session packet =
    option_map_or (λ kind. is_in_turn single count session kind packet.header
    && is_body session kind packet.body)
    (kind_of packet.header) false
