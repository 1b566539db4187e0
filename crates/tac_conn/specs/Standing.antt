-- What the code keeps of a connection, and which packets that represents.
use Rattle.std.specs.Prelude.{◌≡◌, ◌≤◌, ℕ, List, [], ◌∷◌, length, Bool, true, false, not, Option}
use Rattle.std.specs.Prelude.{Some, None}
use Rattle.tac_wire.specs.declared.header.Header.{Header}
use Rattle.tac_conn.specs.declared.ask.Slot.{Slot}
use Rattle.tac_conn.specs.declared.packet.Packet.{Packet}
use Rattle.tac_conn.specs.declared.session.Session.{Session}
use Rattle.tac_conn.specs.declared.outcome.Outcome.{Outcome}
use Rattle.tac_conn.specs.declared.outcome.Outcome.TheVariants as comes_to
use Rattle.tac_conn.specs.declared.step.Step.{Step}
use Rattle.tac_conn.specs.declared.step.Step.TheVariants.{Reply, Asks, Silent, Close}
use Rattle.tac_conn.specs.declared.conn.Conn.{Conn}
use Rattle.tac_conn.specs.Ask.{kind_of_ask}
use Rattle.tac_conn.specs.Reply.{is_success}
use Rattle.tac_conn.specs.Judging.{closes, judged, is_read, max_sessions}
use Rattle.tac_conn.specs.History.{asks_single, is_single, open_session, open_sessions, is_closed}
use Rattle.tac_conn.specs.History.{outcome}
use Rattle.tac_conn.specs.Sessions.{session_in, settled, HasEachOnce}

-- ---- a step

-- what is done for a packet of this outcome: only the connection knows of its session
abbrev pub step_of : Outcome → Step
step_of (comes_to.Question reply session) = Reply reply false
step_of (comes_to.Reply reply ends) = Reply reply ends
step_of (comes_to.Asks ask slot) = Asks ask slot
step_of comes_to.Silent = Silent
step_of comes_to.Close = Close

-- the session that is open from then on
abbrev pub session_left : Outcome → Option Session
session_left (comes_to.Question reply session) = Some session
session_left (comes_to.Reply reply ends) = None
session_left (comes_to.Asks ask slot) = None
session_left comes_to.Silent = None
session_left comes_to.Close = None

-- whether the connection closes, at once or with the answer
abbrev pub step_closes : Step → Bool
step_closes (Reply reply ends) = ends
step_closes (Asks ask slot) = not slot.single
step_closes Silent = false
step_closes Close = true

-- the slot that waits for its answer
abbrev pub slot_in : Step → Option Slot
slot_in (Reply reply ends) = None
slot_in (Asks ask slot) = Some slot
slot_in Silent = None
slot_in Close = None

-- the slot of an ask takes the answers to it
abbrev pub HasItsSlot : Step → Type 0
HasItsSlot (Reply reply ends) = Unit {0}
HasItsSlot (Asks ask slot) = slot.kind ≡ kind_of_ask ask
HasItsSlot Silent = Unit {0}
HasItsSlot Close = Unit {0}

-- nothing is granted unless the desk is asked
abbrev pub GrantsNothing : Outcome → Type 0
GrantsNothing (comes_to.Question reply session) = is_success reply.body ≡ false
GrantsNothing (comes_to.Reply reply ends) = is_success reply.body ≡ false
GrantsNothing (comes_to.Asks ask slot) = Unit {0}
GrantsNothing comes_to.Silent = Unit {0}
GrantsNothing comes_to.Close = Unit {0}

-- ---- a connection

-- the slot that waits for its answer
abbrev pub pending_of : Conn → Option Slot
pending_of conn = conn.pending

-- whether the connection is closed
abbrev pub closed_of : Conn → Bool
closed_of conn = conn.closed

-- whether a connection is single, once a packet of this header came
abbrev pub single_with : Option Bool → Header → Bool
single_with None header = asks_single header
single_with (Some single) header = single

-- the outcome of a packet, by what is kept
unfoldable pub outcome_in : Conn → Packet → Outcome
outcome_in conn packet =
    let session = session_in conn.sessions packet.header.session in
    judged (single_with conn.single packet.header) (length conn.sessions) session packet

-- whether a packet is read, by what is kept
unfoldable pub is_read_in : Conn → Packet → Bool
is_read_in conn packet =
    let session = session_in conn.sessions packet.header.session in
    is_read (single_with conn.single packet.header) (length conn.sessions) session packet

-- what is kept after a packet of this header and this outcome
abbrev pub conn_after : Conn → Header → Outcome → Conn
conn_after conn header outcome = record conn {
  single = Some (single_with conn.single header);
  closed = closes outcome;
  sessions = settled header.session (session_left outcome) conn.sessions;
  pending = slot_in (step_of outcome);
}

-- whether the connection is single, as far as it is known
abbrev pub known_single : List Packet → Option Bool
known_single [] = None
known_single (packet ∷ earlier) = Some (is_single (packet ∷ earlier))

-- the sessions that are kept are those that these packets left open
pub record Lists (sessions : List Session) (packets : List Packet) : Type 0 where
  pub once : HasEachOnce sessions
  pub each : (id : ℕ) → session_in sessions id ≡ open_session packets id
  pub count : length sessions ≡ open_sessions packets
  pub room : length sessions ≤ max_sessions

-- a slot that waits is that of the last packet's ask
abbrev pub IsLast : Option Slot → List Packet → Type 0
IsLast None packets = Unit {0}
IsLast (Some slot) [] = ⊥
IsLast (Some slot) (packet ∷ earlier) = slot_in (step_of (outcome earlier packet)) ≡ Some slot

-- what is kept represents a connection on which these packets came; of a closed one
-- no session matters
pub record Stands (conn : Conn) (packets : List Packet) : Type 0 where
  pub closed : conn.closed ≡ is_closed packets
  pub single : conn.closed ≡ false → conn.single ≡ known_single packets
  pub sessions : conn.closed ≡ false → Lists conn.sessions packets
  pub pending : IsLast conn.pending packets
