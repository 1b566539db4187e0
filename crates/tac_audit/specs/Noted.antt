-- What is noted of what a witness of a connection is told (docs/AUDIT.md).
use Rattle.std.specs.Prelude.{◌≡◌, List, [], ◌∷◌, ◌++◌, ℕ, Option, Some, None, option_to_list}
use Rattle.std.specs.Option.{option_map}
use Rattle.tac_wire.specs.declared.header.Header.{Header}
use Rattle.tac_audit.specs.declared.event.Origin.{Origin}
use Rattle.tac_audit.specs.declared.event.Why.TheVariants as reasons
use Rattle.tac_audit.specs.declared.notice.Notice.{Notice}
use Rattle.tac_audit.specs.declared.notice.Notice.TheVariants.{Packet as OfPacket, BadHeader}
use Rattle.tac_audit.specs.Told.{Told, Refused, Noted, Event}
use Rattle.tac_audit.specs.Telling.{told_of}
use Rattle.tac_audit.specs.Event.{line_of, told_json}

-- ---- one notice

-- what is told, and on which session
abbrev pub noted : ℕ → Option Told → Option Noted
noted session told = option_map (λ told. record { session = session; told = told }) told

-- what is noted of a header that is refused
abbrev pub bad_header : Header → Noted
bad_header header = record { session = header.session; told = Refused reasons.BadHeader }

-- what is noted of a notice; nothing while a login goes on
abbrev pub noted_of : Notice → Option Noted
noted_of (OfPacket received reply) = noted received.session (told_of received reply)
noted_of (BadHeader header) = Some (bad_header header)

-- ---- one after another

abbrev pub noted_of_each : List Notice → List Noted
noted_of_each [] = []
noted_of_each (notice ∷ notices) = option_to_list (noted_of notice) ++ noted_of_each notices

-- ---- its line

-- what is noted of this origin at this time
abbrev pub event_of : Option (List ℕ) → Origin → Noted → Event
event_of time origin noted = record {
  time = time;
  origin = origin;
  session = noted.session;
  told = noted.told;
}

-- the members of what is told were added, where anything is
abbrev pub AddsTold : List ℕ → List ℕ → Option Told → Type 0
AddsTold old new None = new ≡ old
AddsTold old new (Some told) = new ≡ old ++ told_json told

-- the line of what is noted was added, where anything is
abbrev pub AddsLine : Option (List ℕ) → Origin → List ℕ → List ℕ → Option Noted → Type 0
AddsLine time origin old new None = new ≡ old
AddsLine time origin old new (Some noted) = new ≡ old ++ line_of (event_of time origin noted)
