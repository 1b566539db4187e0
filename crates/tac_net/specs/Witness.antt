-- Who is told of the packets of a device.
use Rattle.std.specs.Prelude.{◌≡◌, ℕ, List, Option, Some, None}
use Rattle.tac_audit.specs.declared.notice.Notice.{Notice}
use Rattle.tac_journal.specs.declared.device.DeviceLog.{DeviceLog}
use Rattle.tac_journal.specs.declared.writer.LogWriter.{LogWriter}
use Rattle.tac_journal.specs.Device as device
use Rattle.tac_journal.specs.Log.{Keeping}
use Rattle.tac_net.specs.declared.witness.DeviceWitness.{DeviceWitness}

-- ---- where there may be a log

-- the log took this notice by such a step. Where there is none, all is taken
abbrev pub TakesBy : {W : Type 0} → (W → Notice → W → Type 0) → Option W → Notice → Option W
    → Type 0
TakesBy takes (Some was) notice (Some now) = takes was notice now
TakesBy takes None notice None = Unit {0}
TakesBy takes was notice now = ⊥

-- it refused it so. Where there is none, nothing is refused
abbrev pub RefusesBy : {W : Type 0} → (W → Notice → W → Type 0) → Option W → Notice → Option W
    → Type 0
RefusesBy refuses (Some was) notice (Some now) = refuses was notice now
RefusesBy refuses was notice now = ⊥

-- ---- the log of a server

module _ {R L : Type 0} (keeping : L → Keeping) where
  -- it took these lines by one append, or refused them
  abbrev pub WriterTakes : LogWriter R L → List ℕ → LogWriter R L → Type 0
  WriterTakes was lines now = (now ≡ was) × (keeping was.log.now).took lines

  abbrev pub WriterRefuses : LogWriter R L → List ℕ → LogWriter R L → Type 0
  WriterRefuses was lines now = now ≡ was

  abbrev pub place_of : DeviceLog R (LogWriter R L) → device.Place (LogWriter R L)
  place_of log = record { origin = log.origin; log = log.log }

  -- the witness of a connection took this notice, or refused it, by its log
  abbrev pub Takes : DeviceWitness R L → Notice → DeviceWitness R L → Type 0
  Takes was notice now =
      TakesBy (λ was notice now. device.Takes WriterTakes (place_of was) notice (place_of now))
      was.log notice now.log

  abbrev pub Refuses : DeviceWitness R L → Notice → DeviceWitness R L → Type 0
  Refuses was notice now =
      RefusesBy (λ was notice now. device.Refuses WriterRefuses (place_of was) notice (place_of now))
      was.log notice now.log
