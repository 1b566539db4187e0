-- What is told of a devices' file (docs/DEVICES.md): it is worked out of the whole text, by a relation
-- between texts, outputs and ends, and written.
use Rattle.std.specs.Prelude.{◌≤◌, ◌<◌, ℕ, List, length, Option, Result, Ok, Err, IfSome}
use Rattle.std.specs.Global.{Vec}
use Rattle.tac_io.specs.Answering.{IsWritten}
use Rattle.tac_io.specs.declared.reading.InputFault.{InputFault}
use Rattle.tac_io.specs.declared.reading.InputFault.TheVariants as inputs
use Rattle.tac_io.specs.declared.answering.AnswerFault.{AnswerFault}

-- the most bytes that a devices' file has
abbrev pub max_text : ℕ
max_text = 16777216

-- this was worked out of the whole input, which is not too long; or the input is too long
abbrev pub IsWorkedOut : {End : Type 0} → (List ℕ → List ℕ → End → Type 0) → Option (List ℕ)
    → Result (Vec ℕ × End) InputFault → Type 0
IsWorkedOut works input (Ok told) =
    IfSome input (λ text. (length text ≤ max_text) × works text told.0.items told.1)
IsWorkedOut works input (Err inputs.TooLong) = IfSome input (λ text. max_text < length text)
IsWorkedOut works input (Err inputs.Failed) = Unit {0}
IsWorkedOut works input (Err inputs.Memory) = Unit {0}

-- that was written, or what a fault leaves of it
abbrev pub IsTold : {End : Type 0} → (List ℕ → List ℕ → End → Type 0) → Option (List ℕ)
    → Option (List ℕ) → Option (List ℕ) → Result End AnswerFault → Type 0
IsTold {End} works input before after result =
    (answer : Result (Vec ℕ × End) InputFault) × IsWorkedOut works input answer
    × IsWritten before after answer result
