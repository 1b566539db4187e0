-- What the functions that read a devices' file return, against what is wanted.
use Rattle.std.specs.Prelude.{◌≡◌, ℕ, List, Result, Ok, Err}
use Rattle.tac_devices.specs.declared.draft.Entry.{Entry}
use Rattle.tac_devices.specs.declared.fault.DevicesRefusal.{DevicesRefusal}
use Rattle.tac_devices.specs.declared.fault.DevicesFault.{DevicesFault}
use Rattle.tac_devices.specs.declared.fault.DevicesFault.TheVariants as faults
use Rattle.tac_devices.specs.declared.fault.LineFault.{LineFault}
use Rattle.tac_devices.specs.declared.fault.LineFault.TheVariants.{Refused, Memory}

-- the fault is the wanted refusal, or memory ran out
abbrev pub LineFails : {Y : Type 0} → LineFault → Result Y DevicesRefusal → Type 0
LineFails Memory wanted = Unit {0}
LineFails (Refused refusal) wanted = wanted ≡ Err refusal

-- what is there now is the wanted one, unless memory ran out
abbrev pub LineMakes : {Y : Type 0} → Result Unit LineFault → Y → Result Y DevicesRefusal → Type 0
LineMakes (Ok made) now wanted = wanted ≡ Ok now
LineMakes (Err fault) now wanted = LineFails fault wanted

-- a line's fault with the line that it is at
abbrev pub at_place : ℕ → LineFault → DevicesFault
at_place line Memory = faults.Memory
at_place line (Refused refusal) = faults.Refused line refusal

-- the devices pass, or this is why they don't
abbrev pub Passes : Result Unit DevicesFault → List Entry → Result (List Entry) DevicesFault → Type 0
Passes (Ok passed) entries wanted = wanted ≡ Ok entries
Passes (Err fault) entries wanted = wanted ≡ Err fault
