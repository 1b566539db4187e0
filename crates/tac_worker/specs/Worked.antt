-- What a worker has done that served one connection by calls at a hall.
use Rattle.std.specs.Prelude.{◌≡◌, ◌<◌, ◌≤◌, ℕ, List, [], ◌∷◌, ◌++◌, map, length}
use Rattle.std.specs.Prelude.{Bool, true, false, Option}
use Rattle.std.specs.Io.KnownBytes.{Appends, Consumes, IsAtEnd}
use Rattle.tac_wire.specs.declared.door.Door.{Door}
use Rattle.tac_conn.specs.declared.ask.Answer.{Answer}
use Rattle.tac_conn.specs.declared.ask.Ask.{Ask}
use Rattle.tac_audit.specs.declared.notice.Notice.{Notice}
use Rattle.tac_hall.specs.declared.call.Call.TheVariants as calls
use Rattle.tac_hall.specs.declared.call.CallAnswer.TheVariants as answers
use Rattle.tac_hall.specs.View.{Made}
use Rattle.tac_hall.specs.declared.receipt.Receipt.{Receipt}
use Rattle.tac_hall.specs.declared.fault.HallFault.{HallFault}
use Rattle.tac_hall.specs.declared.fault.HallFault.TheVariants as refusals
use Rattle.tac_worker.specs.declared.end.End.{End}
use Rattle.tac_worker.specs.declared.end.End.TheVariants.{Finished, ByProtocol, Stopped, LogFull}
use Rattle.tac_worker.specs.declared.end.End.TheVariants.{Memory, ReadFault}
use Rattle.tac_worker.specs.declared.end.End.TheVariants.{Unwitnessed, NoSeat}
use Rattle.tac_worker.specs.Served.{Sending, served, asks, closes, bytes_sent, carried}
use Rattle.tac_worker.specs.Told.{notices, Tells}

-- ---- its calls

-- an ask that was called, the segment of the history in which it stands, its place in the log of
-- that, and the answer
pub record Exchange : Type 0 where
  pub ask : Ask
  pub segment : ℕ
  pub place : ℕ
  pub answer : Answer

abbrev pub asks_of : List Exchange → List Ask
asks_of made = map (λ exchange. exchange.ask) made

abbrev pub answers_of : List Exchange → List Answer
answers_of made = map (λ exchange. exchange.answer) made

-- how a view has it
abbrev pub in_view : Exchange → Made
in_view exchange = record {
  segment = exchange.segment;
  place = exchange.place;
  call = calls.Ask exchange.ask;
  answer = answers.Ask exchange.answer;
}

-- its receipt, at this seat
abbrev pub receipt_for : ℕ → Exchange → Receipt
receipt_for seat exchange = record {
  seat = seat;
  segment = exchange.segment;
  place = exchange.place;
  answer = answers.Ask exchange.answer;
}

-- these exchanges were made, one after another, each by such a step, and nothing else was done
abbrev pub AreMade : {S : Type 0} → (S → Exchange → S → Type 0) → S → List Exchange → S → Type 0
AreMade step was [] now = now ≡ was
AreMade {S} step was (exchange ∷ made) now =
    (then : S) × step was exchange then × AreMade step then made now

-- these exchanges were made, one after another, and then it rested
abbrev pub AreAllMade : {S : Type 0} → (S → Exchange → S → Type 0) → (S → S → Type 0)
    → S → List Exchange → S → Type 0
AreAllMade {S} step rests was made now =
    (mid : S) × AreMade step was made mid × rests mid now

-- ---- who serves

-- who makes the calls, and who is told
pub record Worker (S V : Type 0) : Type 0 where
  pub caller : S
  pub witness : V

-- ---- what it read and wrote

-- what was left to read before and after, and what stood written before and after, where it is
-- known
pub record Traffic : Type 0 where
  pub before : Option (List ℕ)
  pub after : Option (List ℕ)
  pub old : Option (List ℕ)
  pub new : Option (List ℕ)

-- whole packets of these, from the first on, and all answers are among them
pub record WritesSome (door : Door) (sendings : List Sending) (answers : List Answer)
    (old new : Option (List ℕ)) : Type 0 where
  pub first : List Sending
  pub others : List Sending
  pub parts : sendings ≡ first ++ others
  pub carries : carried first ≡ answers
  pub written : Appends old new (bytes_sent door first)

-- whole packets of these, from the first on. All answers are among them, or in the next one
pub record WritesFirst (door : Door) (sendings : List Sending) (answers : List Answer)
    (old new : Option (List ℕ)) : Type 0 where
  pub first : List Sending
  pub next : List Sending
  pub others : List Sending
  pub parts : sendings ≡ first ++ next ++ others
  pub one : length next ≤ 1
  pub carries : carried (first ++ next) ≡ answers
  pub written : Appends old new (bytes_sent door first)

-- all bytes of these, unless memory ran out, or the witness refused a notice
abbrev pub Writes : End → Door → List Sending → List Answer → Option (List ℕ) → Option (List ℕ)
    → Type 0
Writes Memory door sendings answers old new = WritesSome door sendings answers old new
Writes Unwitnessed door sendings answers old new = WritesFirst door sendings answers old new
Writes end door sendings answers old new = Appends old new (bytes_sent door sendings)

-- ---- how it ended

-- what a refused call ends it as
abbrev pub end_by : HallFault → End
end_by refusals.LogFull = LogFull
end_by refusals.Memory = Memory
end_by refusals.Closed = Stopped
end_by refusals.NoSeat = NoSeat

-- the first of these asks was refused so
abbrev pub IsFirstRefused : HallFault → (Ask → HallFault → Type 0) → List Ask → Type 0
IsFirstRefused fault refuses [] = ⊥
IsFirstRefused fault refuses (ask ∷ left) = refuses ask fault

-- the asks that are left without a call: none, where nothing kept the caller from calling; some,
-- where its next call was refused so
abbrev pub Leaves : End → (Ask → HallFault → Type 0) → List Ask → Type 0
Leaves Finished refuses left = left ≡ []
Leaves ByProtocol refuses left = left ≡ []
Leaves ReadFault refuses left = left ≡ []
Leaves Memory refuses left = Unit {0}
Leaves Unwitnessed refuses left = Unit {0}
Leaves Stopped refuses left = IsFirstRefused refusals.Closed refuses left
Leaves LogFull refuses left = IsFirstRefused refusals.LogFull refuses left
Leaves NoSeat refuses left = IsFirstRefused refusals.NoSeat refuses left

-- whether what was read closes the connection
abbrev pub Closes : End → Bool → Type 0
Closes Finished closing = closing ≡ false
Closes ByProtocol closing = closing ≡ true
Closes ReadFault closing = closing ≡ false
Closes end closing = Unit {0}

-- of what was asked the first asks were called, and what is sent by their answers was written.
-- `are_made` says which exchanges its caller made, and `refuses` which ask it was refused, and why
pub record Ends (end : End) (door : Door) (asked : List Ask) (sent_by : List Answer → List Sending)
    (are_made : List Exchange → Type 0) (refuses : Ask → HallFault → Type 0)
    (old new : Option (List ℕ)) : Type 0 where
  pub made : List Exchange
  pub makes : are_made made
  pub left : List Ask
  pub asks : asked ≡ asks_of made ++ left
  pub leaves : Leaves end refuses left
  pub writes : Writes end door (sent_by (answers_of made)) (answers_of made) old new

-- a connection was served, on which these bytes were read; it ended so, and its witness was told of
-- it. `are_told` says which notices the witness took, and which one it refused then
pub record IsServedBy (end : End) (door : Door) (are_made : List Exchange → Type 0)
    (refuses : Ask → HallFault → Type 0) (are_told : List Notice → Option Notice → Type 0)
    (traffic : Traffic) : Type 0 where
  pub input : List ℕ
  pub read : Consumes traffic.before traffic.after input
  pub finished : end ≡ Finished → IsAtEnd traffic.after
  pub memory : end ≡ Memory → 0 < length input
  pub closing : Closes end (closes door input)
  pub ends : Ends end door (asks door input) (served door input) are_made refuses
      traffic.old traffic.new
  pub told : Tells end door (notices door input (answers_of ends.made)) are_told
      traffic.old traffic.new
