-- What the packets that came before make of a connection (RFC 8907, sections 4.1 to
-- 4.4). Lists of packets have the
-- latest first.
use Rattle.std.specs.Prelude.{ℕ, ◌*◌, List, [], ◌∷◌, length, count_by, Bool, true, false, not, ◌&&◌}
use Rattle.std.specs.Prelude.{◌||◌, ◌==◌, Option, Some, None, if◌then◌else◌}
use Rattle.std.specs.List.{list_any}
use Rattle.std.specs.Option.{option_map_or}
use Rattle.std.specs.Result.{result_ok}
use Rattle.tac_wire.specs.Flag.{has_flag}
use Rattle.tac_wire.specs.Header.{single_connect_flag}
use Rattle.tac_wire.specs.declared.header.Header.{Header}
use Rattle.tac_authen.specs.declared.start.Start.{Start}
use Rattle.tac_authen.specs.Start.{start_of}
use Rattle.tac_authen.specs.declared.continuation.Continue.{Continue}
use Rattle.tac_authen.specs.Continue.{continue_of}
use Rattle.tac_conn.specs.declared.packet.Packet.{Packet}
use Rattle.tac_conn.specs.declared.reading.Asker.{Asker}
use Rattle.tac_conn.specs.declared.session.Session.{Session}
use Rattle.tac_conn.specs.declared.outcome.Outcome.{Outcome}
use Rattle.tac_conn.specs.declared.outcome.Outcome.TheVariants.{Close}
use Rattle.tac_conn.specs.Asker.{start_asker, named, nobody}
use Rattle.tac_conn.specs.Judging.{judged, leaves_open, closes, is_read}

-- ---- one session

-- the START that begins a session
abbrev pub started : Packet → Option Start
started packet = result_ok (start_of packet.body)

-- a CONTINUE within one
abbrev pub continued : Packet → Option Continue
continued packet = result_ok (continue_of packet.body)

-- who logs in: what its START says, and the name that its last packet told, if another did
abbrev pub asker_of : List Packet → Asker
asker_of [] = nobody
asker_of (start ∷ []) = option_map_or start_asker (started start) nobody
asker_of (packet ∷ before ∷ earlier) =
    named (asker_of (before ∷ earlier))
    (option_map_or (λ answer. answer.user_msg) (continued packet) [])

-- an open session, by its trail: each packet of it was replied to
abbrev pub session_of : ℕ → List Packet → Option Session
session_of id [] = None
session_of id (packet ∷ earlier) =
    let trail = packet ∷ earlier in
    Some (record {
      id = id;
      last_seq = 2 * length trail;
      asker = asker_of trail;
    })

-- ---- a connection

-- the client asks for many sessions on one connection
abbrev pub asks_single : Header → Bool
asks_single header = has_flag single_connect_flag header.flags

-- a connection is single if its first packet asked for it; the flag of later packets means nothing
abbrev pub is_single : List Packet → Bool
is_single [] = false
is_single (first ∷ []) = asks_single first.header
is_single (packet ∷ before ∷ earlier) = is_single (before ∷ earlier)

-- whether one of the packets is of this session
abbrev pub has_session : ℕ → List Packet → Bool
has_session id packets = list_any (λ packet. packet.header.session == id) packets

-- the sessions that these packets are of, each once
abbrev pub session_ids : List Packet → List ℕ
session_ids [] = []
session_ids (packet ∷ earlier) =
    if has_session packet.header.session earlier then session_ids earlier
    else packet.header.session ∷ session_ids earlier

-- a session is open if its trail isn't empty
abbrev pub is_open : List Packet → Bool
is_open [] = false
is_open (packet ∷ earlier) = true

-- how many of the sessions of these packets are open, by the trail of each
abbrev pub open_count : (ℕ → List Packet) → List Packet → ℕ
open_count trail packets = count_by (λ id. is_open (trail id)) (session_ids packets)

-- the outcome of a packet after these, by the trail of each session
abbrev pub judged_by : (ℕ → List Packet) → List Packet → Packet → Outcome
judged_by trail earlier packet =
    let id = packet.header.session in
    judged (is_single (packet ∷ earlier)) (open_count trail earlier)
    (session_of id (trail id)) packet

-- the trail of a session: its packets after the last that ended it or, coming while
-- it wasn't open, opened none
unfoldable pub trail_of : List Packet → ℕ → List Packet
trail_of [] id = []
trail_of (packet ∷ earlier) id =
    if packet.header.session == id
    then (if leaves_open (judged_by (trail_of earlier) earlier packet)
    then packet ∷ trail_of earlier id else [])
    else trail_of earlier id

-- the session of this id, if it is open after these packets
abbrev pub open_session : List Packet → ℕ → Option Session
open_session packets id = session_of id (trail_of packets id)

-- how many sessions are open after these packets
abbrev pub open_sessions : List Packet → ℕ
open_sessions packets = open_count (trail_of packets) packets

-- the outcome of a packet after these, on a connection that none of them closed
unfoldable pub judged_after : List Packet → Packet → Outcome
judged_after earlier packet = judged_by (trail_of earlier) earlier packet

-- whether one of the packets closed the connection
unfoldable pub is_closed : List Packet → Bool
is_closed [] = false
is_closed (packet ∷ earlier) = is_closed earlier || closes (judged_after earlier packet)

-- the outcome of a packet that came after these on its connection: a closed connection says nothing
unfoldable pub outcome : List Packet → Packet → Outcome
outcome earlier packet = if is_closed earlier then Close else judged_after earlier packet

-- whether such a packet is read: one that is refused as it stands is not
unfoldable pub is_read_after : List Packet → Packet → Bool
is_read_after earlier packet =
    not (is_closed earlier)
    && (let session = open_session earlier packet.header.session in
    is_read (is_single (packet ∷ earlier)) (open_sessions earlier) session packet)
