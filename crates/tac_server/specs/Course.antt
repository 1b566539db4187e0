-- What happens at a server, one event after another, and what it gives out.
use Rattle.std.specs.Prelude.{◌≡◌, ℕ, List, [], ◌∷◌, ◌++◌, Bool, Result, Ok, Err}
use Rattle.tac_desk.specs.Meaning.{Meaning}
use Rattle.tac_server.specs.Server.{State}
use Rattle.tac_server.specs.Happening.{Happening, Brings, Loses}
use Rattle.tac_server.specs.Happening.{Given, Nothing, Gives, bytes_given}
use Rattle.tac_server.specs.Kept.{HasState}
use Rattle.tac_server.specs.declared.server.Server.{Server}
use Rattle.tac_server.specs.declared.server.ServerFault.{ServerFault}
use Rattle.tac_server.specs.declared.server.ServerFault.TheVariants as faults

-- an event after what came earlier
pub record After (earlier : List Given → State → Type 0) (event : Happening)
    (outs : List Given) (after : State) : Type 0 where
  pub before : State
  pub rest : List Given
  pub given : Given
  pub was : earlier rest before
  pub gives : Gives before event given after
  pub is : outs ≡ given ∷ rest

-- events in their order, the latest first: what was given out at each, the latest first, and the
-- state that they leave
abbrev pub Course : State → List Happening → List Given → State → Type 0
Course start [] outs after = (outs ≡ []) × (after ≡ start)
Course start (event ∷ earlier) outs after = After (Course start earlier) event outs after

-- the server is the one that these events leave, and gave out this; nothing else is right
pub record HasRun {D : Type 0} (meaning : D → Meaning) (server : Server D) (start : State)
    (events : List Happening) (outs : List Given) : Type 0 where
  pub state : State
  pub has : HasState meaning server state
  pub course : Course start events outs state
  pub only : (others : List Given) (other : State) → Course start events others other
      → (others ≡ outs) × (other ≡ state)

-- the same, with one event more, whose bytes were added to those that stood there before
abbrev pub RunsOn : {D : Type 0} → (D → Meaning) → List ℕ → List ℕ → Server D → State
    → Happening → List Happening → List Given → Type 0
RunsOn meaning old new server start event events outs =
    (given : Given) × (new ≡ old ++ bytes_given start.key given)
    × HasRun meaning server start (event ∷ events) (given ∷ outs)

-- the same, with two events more: a beginning of these bytes came on the connection of a number,
-- and what was said to it was added; then the connection was lost
pub record BreaksOff {D : Type 0} (meaning : D → Meaning) (old new : List ℕ) (server : Server D)
    (start : State) (number : ℕ) (bytes : List ℕ) (events : List Happening) (outs : List Given)
    : Type 0 where
  pub front : List ℕ
  pub rest : List ℕ
  pub given : Given
  pub split : bytes ≡ front ++ rest
  pub added : new ≡ old ++ bytes_given start.key given
  pub run : HasRun meaning server start (Loses number ∷ Brings number front ∷ events)
      (Nothing ∷ given ∷ outs)

-- how the course goes on after a fault: memory that runs out breaks the bytes off, and on a
-- connection that isn't open nothing happens
abbrev pub RunsAfterFault : {D : Type 0} → (D → Meaning) → List ℕ → List ℕ → Server D → State
    → ℕ → List ℕ → List Happening → List Given → Result Bool ServerFault → Type 0
RunsAfterFault meaning old new server start number bytes events outs (Ok closes) = Unit {0}
RunsAfterFault meaning old new server start number bytes events outs (Err faults.NoConnection) =
    (new ≡ old) × HasRun meaning server start events outs
RunsAfterFault meaning old new server start number bytes events outs (Err faults.AlreadyOpen) = ⊥
RunsAfterFault meaning old new server start number bytes events outs
    (Err (faults.Memory accepted)) =
    BreaksOff meaning old new server start number bytes events outs
