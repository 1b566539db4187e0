-- What a packet was read as that came after others on its connection, the latest first.
use Rattle.std.specs.Prelude.{◌≡◌, List, [], ◌∷◌, if◌then◌else◌}
use Rattle.tac_conn.specs.declared.packet.Packet.{Packet}
use Rattle.tac_conn.specs.declared.reading.Reading.{Reading}
use Rattle.tac_conn.specs.declared.reading.Reading.TheVariants.{OutOfTurn}
use Rattle.tac_conn.specs.declared.reading.Received.{Received}
use Rattle.tac_conn.specs.declared.ask.Ask.{Ask}
use Rattle.tac_conn.specs.declared.ask.Slot.{Slot}
use Rattle.tac_conn.specs.declared.conn.Conn.{Conn}
use Rattle.tac_conn.specs.declared.outcome.Outcome.{Outcome}
use Rattle.tac_conn.specs.declared.outcome.Outcome.TheVariants as comes_to
use Rattle.tac_conn.specs.declared.step.Step.{Step}
use Rattle.tac_conn.specs.declared.step.Step.TheVariants.{Reply, Asks, Silent, Close}
use Rattle.tac_conn.specs.Reading.{read_as, noted, less, rejoined, judged_as}
use Rattle.tac_conn.specs.History.{is_single, open_session, open_sessions, is_closed, outcome}
use Rattle.tac_conn.specs.Sessions.{session_in}
use Rattle.tac_conn.specs.Standing.{single_with, outcome_in}
use Rattle.std.specs.Prelude.{length}

-- ---- by the packets before

-- what it is read as; on a closed connection nothing comes in its turn
unfoldable pub read_after : List Packet → Packet → Reading
read_after earlier packet =
    if is_closed earlier then OutOfTurn
    else read_as (is_single (packet ∷ earlier)) (open_sessions earlier)
    (open_session earlier packet.header.session) packet

abbrev pub received_as : Packet → Reading → Received
received_as packet reading = record { session = packet.header.session; reading = reading }

-- its session, and what is told of its reading
unfoldable pub received : List Packet → Packet → Received
received earlier packet =
    received_as packet (noted (outcome earlier packet) (read_after earlier packet))

-- of a packet that came once its connection was closed
abbrev pub too_late : Packet → Received
too_late packet = received_as packet OutOfTurn

-- ---- beside a step

-- what an ask has, it has alone until it was called
abbrev pub without_ask : Step → Received → Received
without_ask (Reply reply closes) received = received
without_ask (Asks ask slot) received = record received { reading = less received.reading }
without_ask Silent received = received
without_ask Close received = received

abbrev pub with_ask : Ask → Received → Received
with_ask ask received = record received { reading = rejoined ask received.reading }

-- what the ask of a packet has and what was beside it are together what the packet was read as
abbrev pub IsWholeWith : Ask → Slot → List Packet → Packet → Type 0
IsWholeWith ask slot earlier packet =
    outcome earlier packet ≡ comes_to.Asks ask slot →
    with_ask ask (without_ask (Asks ask slot) (received earlier packet))
    ≡ received earlier packet

-- ---- by what is kept

unfoldable pub read_in : Conn → Packet → Reading
read_in conn packet =
    read_as (single_with conn.single packet.header) (length conn.sessions)
    (session_in conn.sessions packet.header.session) packet

-- what the judge makes of a packet
abbrev pub judged_in : Conn → Packet → Reading × Outcome
judged_in conn packet = judged_as (outcome_in conn packet) (read_in conn packet)
