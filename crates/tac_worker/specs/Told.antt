-- What the witness of a connection was told, each notice before its reply was written
-- (docs/AUDIT.md).
use Rattle.std.specs.Prelude.{◌≡◌, ◌<◌, ℕ, List, [], ◌∷◌, ◌++◌, length, map, flat_map}
use Rattle.std.specs.Prelude.{Option, Some, None}
use Rattle.std.specs.Io.KnownBytes.{Appends}
use Rattle.tac_wire.specs.declared.door.Door.{Door}
use Rattle.tac_wire.specs.declared.frame.Frame.{Frame}
use Rattle.tac_wire.specs.Stream.{Tail, cut}
use Rattle.tac_conn.specs.declared.ask.Answer.{Answer}
use Rattle.tac_conn.specs.declared.packet.Packet.{Packet}
use Rattle.tac_conn.specs.Packet.{sent}
use Rattle.tac_conn.specs.Reply.{packet_of}
use Rattle.tac_audit.specs.declared.notice.Notice.{Notice}
use Rattle.tac_audit.specs.Notices.{notices_to, replies_told}
use Rattle.tac_audit.specs.Witness.{AreTold}
use Rattle.tac_worker.specs.declared.end.End.{End}
use Rattle.tac_worker.specs.declared.end.End.TheVariants.{Memory, Unwitnessed}
use Rattle.tac_worker.specs.Served.{served_to}

-- ---- of a stream

-- what there is to tell of these bytes: each ask takes the next answer
abbrev pub notices : Door → List ℕ → List Answer → List Notice
notices door bytes answers =
    let parts = cut door bytes in notices_to door [] parts.packets parts.tail answers

-- the bytes of the replies that are told, as they are sent by this door
abbrev pub bytes_told : Door → List Notice → List ℕ
bytes_told door told = flat_map (λ reply. sent door (packet_of reply)) (replies_told told)

-- the replies that are told are those that are sent
abbrev pub ToldLaw : Type 0
ToldLaw =
    (door : Door) (earlier : List Packet) (frames : List Frame) (tail : Tail)
    (answers : List Answer)
    → map packet_of (replies_told (notices_to door earlier frames tail answers))
    ≡ map (λ sending. sending.packet) (served_to door earlier frames answers)

-- ---- to a witness

-- it refused this notice, if there is one, and did nothing else
abbrev pub RefusesOne : {V T : Type 0} → (V → T → V → Type 0) → V → Option T → V → Type 0
RefusesOne refuses was None now = now ≡ was
RefusesOne refuses was (Some notice) now = refuses was notice now

-- it took these notices, one after another, and then refused this one, if there is one
abbrev pub TakesUntil : {V T : Type 0} → (V → T → V → Type 0) → (V → T → V → Type 0)
    → V → List T → Option T → V → Type 0
TakesUntil {V} takes refuses was told refused now =
    (mid : V) × AreTold takes was told mid × RefusesOne refuses mid refused now

-- the notices that are left where a connection ends so: none, unless memory ran out, or the first
-- of them was refused
abbrev pub LeavesUntold : End → List Notice → Type 0
LeavesUntold Memory left = Unit {0}
LeavesUntold Unwitnessed left = 0 < length left
LeavesUntold end left = left ≡ []

-- the one of them that was refused, if one was
abbrev pub refused_of : End → List Notice → Option Notice
refused_of Unwitnessed (notice ∷ left) = Some notice
refused_of end left = None

-- ---- before its replies were written

-- of what there is to tell the first notices were told, and the replies in them were written.
-- `are_told` says which notices the witness took, and which one it refused then
pub record Tells (end : End) (door : Door) (to_tell : List Notice)
    (are_told : List Notice → Option Notice → Type 0) (old new : Option (List ℕ)) : Type 0 where
  pub told : List Notice
  pub left : List Notice
  pub parts : to_tell ≡ told ++ left
  pub takes : are_told told (refused_of end left)
  pub leaves : LeavesUntold end left
  pub writes : Appends old new (bytes_told door told)
