-- One connection that is served in turns, while others are served too.
use Rattle.std.specs.Prelude.{◌≡◌, ◌≤◌, ℕ, List, [], ◌∷◌, ◌++◌, map, length, take, drop}
use Rattle.std.specs.Prelude.{Bool, true, false, Option, Some, None}
use Rattle.std.specs.Io.KnownBytes.{Consumes, IsAtEnd}
use Rattle.tac_wire.specs.declared.door.Door.{Door}
use Rattle.tac_conn.specs.declared.ask.Answer.{Answer}
use Rattle.tac_conn.specs.declared.ask.Ask.{Ask}
use Rattle.tac_conn.specs.declared.ask.Ask.TheVariants.{Authenticate, Authorise, Serve, Account}
use Rattle.tac_conn.specs.declared.ask.Proof.{Proof}
use Rattle.tac_conn.specs.declared.ask.Proof.TheVariants.{Plain, Chap}
use Rattle.tac_audit.specs.declared.notice.Notice.{Notice}
use Rattle.tac_audit.specs.Witness.{AreTold}
use Rattle.tac_hall.specs.declared.fault.HallFault.{HallFault}
use Rattle.tac_stream.specs.declared.stream.Stream.{Stream}
use Rattle.tac_worker.specs.declared.due.Due.{Due}
use Rattle.tac_worker.specs.declared.due.Due.TheVariants as next
use Rattle.tac_worker.specs.declared.end.End.{End}
use Rattle.tac_worker.specs.declared.end.End.TheVariants.{Finished}
use Rattle.tac_worker.specs.Noting.{answered, IsNoted, NoneIsNoted}
use Rattle.tac_worker.specs.Served.{served, asks}
use Rattle.tac_worker.specs.Told.{notices, bytes_told, TakesUntil}
use Rattle.tac_worker.specs.Worked.{Exchange, asks_of, answers_of, AreAllMade, Worker, Traffic}
use Rattle.tac_worker.specs.Worked.{WritesSome, IsServedBy}
use Rattle.tac_worker.specs.Working.{Serving, IsAtRest}

-- a connection, with what came on it, what was called for it, and what was put on it to be sent
pub record Linked (S V : Type 0) : Type 0 where
  -- by which its packets come and go
  pub door : Door
  -- the bytes that reads gave
  pub heard : List ℕ
  -- the asks that were called for it, each with its answer
  pub called : List (Ask × Answer)
  -- the bytes that were sent, and those that wait to be sent
  pub sent : List ℕ
  pub pending : List ℕ
  -- its witness, at first and now
  pub first : V
  pub witness : V
  -- its caller, as the last turn left it
  pub caller : S
  -- whether the last turn found no whole packet, and no read went well since
  pub rests : Bool
  -- how it ended, if it has ended
  pub end : Option End

-- ---- a password

abbrev pub IsPassword : Proof → Type 0
IsPassword (Plain password) = Unit {0}
IsPassword (Chap id challenge response) = ⊥

-- it is asked whether a password is the user's
abbrev pub IsOfPassword : Ask → Type 0
IsOfPassword (Authenticate user service proof) = IsPassword proof
IsOfPassword (Authorise user line) = ⊥
IsOfPassword (Serve user service protocol) = ⊥
IsOfPassword (Account item) = ⊥

-- ---- what is due

-- what waits is sent first; so the next packet is neither read nor judged until then
abbrev pub due_by : List ℕ → Option End → Bool → Due
due_by (byte ∷ bytes) end rests = next.Send
due_by [] (Some end) rests = next.Close
due_by [] None true = next.Hear
due_by [] None false = next.Turn

module _ {S V : Type 0} where
  abbrev pub due_of : Linked S V → Due
  due_of link = due_by link.pending link.end link.rests

  -- ---- a connection

  -- on which nothing came
  abbrev pub fresh : Door → V → S → Linked S V
  fresh door witness caller = record {
    door = door;
    heard = [];
    called = [];
    sent = [];
    pending = [];
    first = witness;
    witness = witness;
    caller = caller;
    rests = false;
    end = None;
  }

  -- all that was put on it
  abbrev pub put : Linked S V → List ℕ
  put link = link.sent ++ link.pending

  -- of what came on it the first ask that wasn't called is of a password
  pub record AsksPassword (link : Linked S V) : Type 0 where
    pub ask : Ask
    pub later : List Ask
    pub next : asks link.door link.heard ≡ map (λ call. call.0) link.called ++ ask ∷ later
    pub password : IsOfPassword ask

  -- what came is all that was to be read, and nothing was written before what was put on it
  abbrev pub traffic_on : Linked S V → Traffic
  traffic_on link =
      record { before = Some link.heard; after = Some []; old = Some []; new = Some (put link) }

-- a worker of whose caller the calls for this connection alone are known
abbrev pub worker_at : {V : Type 0} → List (Ask × Answer) → V → Worker (List (Ask × Answer)) V
worker_at called witness = record { caller = called; witness = witness }

-- whose caller is refused asks so, and whose witness takes notices so, and refuses them so
module _ {S V : Type 0} (refuses : S → Ask → HallFault → Type 0)
    (takes refuses_notice : V → Notice → V → Type 0) where
  -- it ended so
  abbrev pub IsOver : Linked S V → End → Type 0
  IsOver link end =
      IsServedBy end link.door (λ made. link.called ≡ map answered made) (refuses link.caller)
      (λ told refused. TakesUntil takes refuses_notice link.first told refused link.witness)
      (traffic_on link)

  -- it is open: of what was asked the first asks were called, and what is sent by their answers was
  -- put there, as far as packets were taken; of what there is to tell the witness took the first
  -- notices, and the replies in them are what was put there
  pub record IsOpen (link : Linked S V) : Type 0 where
    pub made : List Exchange
    pub called : link.called ≡ map answered made
    pub left : List Ask
    pub asked : asks link.door link.heard ≡ asks_of made ++ left
    pub writes : WritesSome link.door (served link.door link.heard (answers_of made))
        (answers_of made) (Some []) (Some (put link))
    pub told : List Notice
    pub untold : List Notice
    pub parts : notices link.door link.heard (answers_of made) ≡ told ++ untold
    pub took : AreTold takes link.first told link.witness
    pub replies : put link ≡ bytes_told link.door told

  -- so it stands, whether it ended or is open
  abbrev pub StandsSo : Option End → Linked S V → Type 0
  StandsSo None link = IsOpen link
  StandsSo (Some end) link = IsOver link end

  -- ---- what is kept

  -- no whole packet stands there
  abbrev pub Rested : Linked S V → Stream → List ℕ → ℕ → Type 0
  Rested link stream input taken =
      link.rests ≡ true → IsAtRest IsNoted NoneIsNoted (λ _. refuses link.caller) takes
      refuses_notice link.door input taken (worker_at link.called link.witness)
      (worker_at link.called link.witness) (Some (put link)) (Some (put link)) stream

  -- while it is open all that came is served, as far as it was taken
  abbrev pub IsLinked : Option End → Linked S V → Stream → Type 0
  IsLinked None link stream =
      (s : Serving IsNoted takes link.door (worker_at [] link.first)
      (worker_at link.called link.witness) (traffic_on link) stream)
      × Rested link stream s.input s.taken
  IsLinked (Some end) link stream = IsOver link end

-- ---- what is done

module _ {S V : Type 0} where
  -- a turn: the caller made one exchange at most, which is noted, and nothing was read or sent
  pub record Turns (step : S → Exchange → S → Type 0) (rest : S → S → Type 0)
      (was now : Linked S V) (before after : S) : Type 0 where
    pub made : List Exchange
    pub one : length made ≤ 1
    pub makes : AreAllMade step rest before made after
    pub called : now.called ≡ was.called ++ map answered made
    pub caller : now.caller ≡ after
    pub door : now.door ≡ was.door
    pub heard : now.heard ≡ was.heard
    pub sent : now.sent ≡ was.sent
    pub first : now.first ≡ was.first

  -- if one is due; else nothing was done
  abbrev pub TurnsAt : (S → Exchange → S → Type 0) → (S → S → Type 0) → Due → Linked S V
      → Linked S V → S → S → Type 0
  TurnsAt step rest next.Turn was now before after = Turns step rest was now before after
  TurnsAt step rest due was now before after = (now ≡ was) × (after ≡ before)

  -- a read: this piece came, and nothing was called, told, put or sent
  pub record Hears (was now : Linked S V) (before after : Option (List ℕ)) : Type 0 where
    pub piece : List ℕ
    pub read : Consumes before after piece
    pub same : now ≡ record was {
      heard = was.heard ++ piece;
      rests = now.rests;
      end = now.end;
    }
    pub finished : now.end ≡ Some Finished → IsAtEnd after

  -- if one is due; else nothing was done
  abbrev pub HearsAt : Due → Linked S V → Linked S V → Option (List ℕ) → Option (List ℕ)
      → Type 0
  HearsAt next.Hear was now before after = Hears was now before after
  HearsAt due was now before after = (now ≡ was) × (after ≡ before)

  -- the first of what waited was sent, so many bytes
  abbrev pub after_sending : ℕ → Linked S V → Linked S V
  after_sending n link =
      record link { sent = link.sent ++ take n link.pending; pending = drop n link.pending }
