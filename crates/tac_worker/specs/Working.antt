-- How a worker serves a connection, one turn after another.
use Rattle.std.specs.Prelude.{◌≡◌, ◌<◌, ℕ, suc, List, [], ◌∷◌, ◌++◌, length, take, drop}
use Rattle.std.specs.Prelude.{Bool, true, false, Option, Some, Result, Ok, Err}
use Rattle.std.specs.Io.KnownBytes.{Appends, Consumes, IsAtEnd}
use Rattle.tac_wire.specs.declared.door.Door.{Door}
use Rattle.tac_wire.specs.declared.frame.Frame.{Frame}
use Rattle.tac_wire.specs.Stream.{Tail, cut}
use Rattle.tac_conn.specs.Packet.{clear}
use Rattle.tac_conn.specs.History.{is_closed}
use Rattle.tac_conn.specs.declared.ask.Answer.{Answer}
use Rattle.tac_conn.specs.declared.ask.Ask.{Ask}
use Rattle.tac_conn.specs.declared.packet.Packet.{Packet}
use Rattle.tac_stream.specs.declared.stream.Stream.{Stream}
use Rattle.tac_stream.specs.Turns.{packets_of, closed_by}
use Rattle.tac_stream.specs.Kept.{IsReady, Stands, closed_of, pending_of}
use Rattle.tac_audit.specs.declared.notice.Notice.{Notice}
use Rattle.tac_audit.specs.Notices.{notices_to}
use Rattle.tac_audit.specs.Witness.{AreTold}
use Rattle.tac_hall.specs.declared.fault.HallFault.{HallFault}
use Rattle.tac_hall.specs.declared.fault.HallFault.TheVariants as refusals
use Rattle.tac_worker.specs.declared.end.End.{End}
use Rattle.tac_worker.specs.declared.end.End.TheVariants.{Finished, ByProtocol, Stopped, LogFull}
use Rattle.tac_worker.specs.declared.end.End.TheVariants.{Memory, ReadFault}
use Rattle.tac_worker.specs.declared.end.End.TheVariants.{Unwitnessed, NoSeat}
use Rattle.tac_worker.specs.declared.turning.Went.{Went}
use Rattle.tac_worker.specs.declared.turning.Went.TheVariants.{On, Rests}
use Rattle.tac_worker.specs.Served.{Sending, served_to, asks_in, closes}
use Rattle.tac_worker.specs.Served.{bytes_sent, carried}
use Rattle.tac_worker.specs.Told.{bytes_told, TakesUntil, Tells}
use Rattle.tac_worker.specs.Worked.{Exchange, asks_of, answers_of, AreMade, AreAllMade}
use Rattle.tac_worker.specs.Worked.{Worker, Traffic, Closes, Ends}

-- ---- packets that were served

-- these packets were served, after earlier ones: whatever comes later, what is sent for all of
-- them is this, and then what is sent for the later ones, and so it is with what is told
pub record Handled (door : Door) (earlier : List Packet) (frames : List Frame)
    (made : List Exchange) (sendings : List Sending) (notices : List Notice) : Type 0 where
  pub served : (more : List Frame) (later : List Answer)
      → served_to door earlier (frames ++ more) (answers_of made ++ later)
      ≡ sendings ++ served_to door (packets_of door frames ++ earlier) more later
  pub asks : (more : List Frame) → asks_in door earlier (frames ++ more)
      ≡ asks_of made ++ asks_in door (packets_of door frames ++ earlier) more
  pub carries : carried sendings ≡ answers_of made
  pub tells : (more : List Frame) (tail : Tail) (later : List Answer)
      → notices_to door earlier (frames ++ more) tail (answers_of made ++ later)
      ≡ notices ++ notices_to door (packets_of door frames ++ earlier) more tail later
  pub bytes : bytes_told door notices ≡ bytes_sent door sendings

-- by a worker whose caller makes exchanges by such steps, and whose witness takes notices so
module _ {S V : Type 0} (step : S → Exchange → S → Type 0) (takes : V → Notice → V → Type 0) where
  -- and it was told and written
  pub record GoesOn (door : Door) (earlier : List Packet) (frames : List Frame)
      (was now : Worker S V) (old new : Option (List ℕ)) : Type 0 where
    pub made : List Exchange
    pub sendings : List Sending
    pub notices : List Notice
    pub handled : Handled door earlier frames made sendings notices
    pub makes : AreMade step was.caller made now.caller
    pub told : AreTold takes was.witness notices now.witness
    pub written : Appends old new (bytes_sent door sendings)

-- ---- a reply

-- a call of this ask wasn't made: memory ran out, or it was refused so
abbrev pub IsUnmade : (Ask → HallFault → Type 0) → Ask → HallFault → Type 0
IsUnmade refuses ask refusals.Memory = Unit {0}
IsUnmade refuses ask fault = refuses ask fault

-- at these ends no call of it was made: memory ran out, or it was refused so
abbrev pub IsUncalled : (Ask → HallFault → Type 0) → Ask → End → Type 0
IsUncalled refuses ask Finished = ⊥
IsUncalled refuses ask ByProtocol = ⊥
IsUncalled refuses ask ReadFault = ⊥
IsUncalled refuses ask Unwitnessed = ⊥
IsUncalled refuses ask Memory = Unit {0}
IsUncalled refuses ask Stopped = refuses ask refusals.Closed
IsUncalled refuses ask LogFull = refuses ask refusals.LogFull
IsUncalled refuses ask NoSeat = refuses ask refusals.NoSeat

-- a packet was written, after which the connection closes or not
abbrev pub Replies : Result Went End → List ℕ → Bool → Option (List ℕ) → Option (List ℕ) → Type 0
Replies (Ok On) reply closing old new = (closing ≡ false) × Appends old new reply
Replies (Ok Rests) reply closing old new = ⊥
Replies (Err ByProtocol) reply closing old new = (closing ≡ true) × Appends old new reply
Replies (Err end) reply closing old new = ⊥

-- the witness took the notice of a packet, and then that packet's reply was written; or it refused
-- the notice, and nothing was written
abbrev pub Answers : Result Went End → Type 0 → Type 0 → List ℕ → Bool → Option (List ℕ)
    → Option (List ℕ) → Type 0
Answers (Err Unwitnessed) takes refuses reply closing old new = refuses × Appends old new []
Answers result takes refuses reply closing old new = takes × Replies result reply closing old new

-- the witness took the notice of what has no reply, after which the connection closes or not; or it
-- refused the notice
abbrev pub Notes : Result Went End → Type 0 → Type 0 → Bool → Type 0
Notes (Ok On) takes refuses closing = takes × (closing ≡ false)
Notes (Ok Rests) takes refuses closing = ⊥
Notes (Err ByProtocol) takes refuses closing = takes × (closing ≡ true)
Notes (Err Unwitnessed) takes refuses closing = refuses
Notes (Err end) takes refuses closing = ⊥

-- ---- one turn

-- the packets of these bytes of which so many were taken, the latest first, and the others
abbrev pub taken_of : Door → List ℕ → ℕ → List Packet
taken_of door bytes taken = packets_of door (take taken (cut door bytes).packets)

abbrev pub left_of : Door → List ℕ → ℕ → List Frame
left_of door bytes taken = drop taken (cut door bytes).packets

-- by a worker whose caller makes exchanges by such steps, rests so, and is refused asks so, and
-- whose witness takes notices so, and refuses them so
module _ {S V : Type 0} (step : S → Exchange → S → Type 0) (rests : S → S → Type 0)
    (refuses : S → Ask → HallFault → Type 0) (takes refuses_notice : V → Notice → V → Type 0) where
  -- the next packet was served, and the connection stays open
  pub record TakesOne (door : Door) (bytes : List ℕ) (taken : ℕ) (was now : Worker S V)
      (old new : Option (List ℕ)) (stream : Stream) : Type 0 where
    pub frame : Frame
    pub more : List Frame
    pub left : left_of door bytes taken ≡ frame ∷ more
    pub goes : GoesOn step takes door (taken_of door bytes taken) (frame ∷ []) was now old new
    pub stays : is_closed (taken_of door bytes taken) ≡ false
        → is_closed (clear door frame ∷ taken_of door bytes taken) ≡ false
    pub ready : IsReady stream
    pub stands : Stands door stream bytes (suc taken)

  -- no packet is left, and nothing was done
  pub record IsAtRest (door : Door) (bytes : List ℕ) (taken : ℕ) (was now : Worker S V)
      (old new : Option (List ℕ)) (stream : Stream) : Type 0 where
    pub left : left_of door bytes taken ≡ []
    pub tail : closed_by (cut door bytes).tail ≡ false
    pub same : now ≡ was
    pub nothing : Appends old new []
    pub ready : IsReady stream
    pub stands : Stands door stream bytes taken

  -- the connection ends
  pub record EndsAt (end : End) (door : Door) (bytes : List ℕ) (taken : ℕ)
      (was now : Worker S V) (old new : Option (List ℕ)) : Type 0 where
    pub unfinished : end ≡ Finished → ⊥
    pub memory : end ≡ Memory → 0 < length bytes
    pub closing : Closes end (closes door bytes)
    pub ends : Ends end door (asks_in door (taken_of door bytes taken) (left_of door bytes taken))
        (served_to door (taken_of door bytes taken) (left_of door bytes taken))
        (λ made. AreAllMade step rests was.caller made now.caller) (refuses now.caller) old new
    pub told : Tells end door
        (notices_to door (taken_of door bytes taken) (left_of door bytes taken)
        (cut door bytes).tail (answers_of ends.made))
        (λ told refused. TakesUntil takes refuses_notice was.witness told refused now.witness)
        old new

  abbrev pub Turned : Result Went End → Door → List ℕ → ℕ → Worker S V → Worker S V
      → Option (List ℕ) → Option (List ℕ) → Stream → Type 0
  Turned (Ok On) door bytes taken was now old new stream =
      TakesOne door bytes taken was now old new stream
  Turned (Ok Rests) door bytes taken was now old new stream =
      IsAtRest door bytes taken was now old new stream
  Turned (Err end) door bytes taken was now old new stream =
      EndsAt end door bytes taken was now old new

-- ---- one read

-- whatever came before, more bytes leave its packets as they are
abbrev pub Prolongs : List ℕ → Type 0
Prolongs piece =
    (door : Door) (bytes : List ℕ)
    → (more : List Frame) × ((cut door (bytes ++ piece)).packets ≡ (cut door bytes).packets ++ more)

-- a piece was read and handed on
pub record HearsMore (before after : Option (List ℕ)) (was now : Stream) : Type 0 where
  pub piece : List ℕ
  pub read : Consumes before after piece
  pub prolongs : Prolongs piece
  pub closed : closed_of now ≡ closed_of was
  pub pending : pending_of now ≡ pending_of was
  pub stands : (door : Door) (bytes : List ℕ) (taken : ℕ) → closed_of was ≡ false
      → Stands door was bytes taken → Stands door now (bytes ++ piece) taken

-- a read was made; where memory runs out, a piece was read and isn't handed on
abbrev pub Heard : Result (Unit {0}) End → Option (List ℕ) → Option (List ℕ) → Stream → Stream
    → Type 0
Heard (Ok _) before after was now = HearsMore before after was now
Heard (Err Finished) before after was now = Consumes before after [] × IsAtEnd after
Heard (Err ReadFault) before after was now = Consumes before after []
Heard (Err Memory) before after was now =
    (piece : List ℕ) × (0 < length piece) × Consumes before after piece × Prolongs piece
Heard (Err end) before after was now = ⊥

-- a read was made that gave this piece, and it was noted
abbrev pub Noted : Result (Unit {0}) End → Option (List ℕ) → Option (List ℕ)
    → List ℕ → List ℕ → Stream → Stream → Type 0
Noted result before after old_bytes new_bytes was now =
    (piece : List ℕ) × (new_bytes ≡ old_bytes ++ piece) × Consumes before after piece
    × (result ≡ Err Finished → IsAtEnd after) × Heard result (Some piece) (Some []) was now

-- ---- the whole connection

-- so many packets were taken of what was read, and what they are served was done
pub record Serving {S V : Type 0} (step : S → Exchange → S → Type 0)
    (takes : V → Notice → V → Type 0) (door : Door) (was now : Worker S V) (traffic : Traffic)
    (stream : Stream) : Type 0 where
  pub input : List ℕ
  pub taken : ℕ
  pub read : Consumes traffic.before traffic.after input
  pub goes : GoesOn step takes door [] (take taken (cut door input).packets) was now
      traffic.old traffic.new
  pub stays : is_closed (taken_of door input taken) ≡ false
  pub ready : IsReady stream
  pub stands : Stands door stream input taken
