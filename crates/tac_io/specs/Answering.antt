-- How an input is answered: it is read to its end, an output is worked out of it, and that is
-- written.
use Rattle.std.specs.Prelude.{◌≡◌, ◌≤◌, ◌<◌, ◌++◌, ◌∷◌, [], ℕ, List, length, take, codes, Option}
use Rattle.std.specs.Prelude.{Result, Ok, Err, IfSome, IsOkAnd}
use Rattle.std.specs.Global.{Vec}
use Rattle.std.specs.Io.KnownBytes.{Appends, Keeps}
use Rattle.tac_io.specs.declared.reading.InputFault.{InputFault}
use Rattle.tac_io.specs.declared.reading.InputFault.TheVariants as inputs
use Rattle.tac_io.specs.declared.answering.AnswerFault.{AnswerFault}
use Rattle.tac_io.specs.declared.answering.AnswerFault.TheVariants.{ReadFault, TooLong}
use Rattle.tac_io.specs.declared.answering.AnswerFault.TheVariants.{WriteFault, Memory, Untold}

-- the most bytes that an input has
abbrev pub max_input : ℕ
max_input = 268435456

abbrev pub IsOver : Option (List ℕ) → Type 0
IsOver input = IfSome input (λ text. max_input < length text)

-- the line that is written where memory ran out
abbrev pub memory_line : List ℕ
memory_line = codes "fault Memory" ++ 10 ∷ []

-- of these bytes so many were written, and some are left
abbrev pub IsCutOff : Option (List ℕ) → Option (List ℕ) → List ℕ → Type 0
IsCutOff before after bytes =
    (n : ℕ) × (n < length bytes) × Appends before after (take n bytes)

-- ---- the result of an input, by a relation between inputs, outputs and ends

abbrev pub ComesTo : {End : Type 0} → (List ℕ → List ℕ → End → Type 0) → Option (List ℕ) → List ℕ
    → End → Type 0
ComesTo works input output end =
    IfSome input (λ text. (length text ≤ max_input) × works text output end)

-- an output was worked out of the whole input, which is not too long; or the input is too long
abbrev pub IsWorked : {End : Type 0} → (List ℕ → List ℕ → End → Type 0) → Option (List ℕ)
    → Result (Vec ℕ × End) InputFault → Type 0
IsWorked works input (Ok output) = ComesTo works input output.0.items output.1
IsWorked works input (Err inputs.TooLong) = IsOver input
IsWorked works input (Err inputs.Failed) = Unit {0}
IsWorked works input (Err inputs.Memory) = Unit {0}

-- ---- what was written of an answer, and what a fault leaves: nothing, a beginning of the output,
-- the line that says Memory, or a beginning of that

abbrev pub IsWritten : {End : Type 0} → Option (List ℕ) → Option (List ℕ)
    → Result (Vec ℕ × End) InputFault → Result End AnswerFault → Type 0
IsWritten before after answer (Ok end) =
    IsOkAnd answer (λ output. (output.1 ≡ end) × Appends before after output.0.items)
IsWritten before after answer (Err ReadFault) =
    (answer ≡ Err inputs.Failed) × Keeps before after
IsWritten before after answer (Err TooLong) =
    (answer ≡ Err inputs.TooLong) × Keeps before after
IsWritten before after answer (Err WriteFault) =
    IsOkAnd answer (λ output. IsCutOff before after output.0.items)
IsWritten before after answer (Err Memory) =
    (answer ≡ Err inputs.Memory) × Appends before after memory_line
IsWritten before after answer (Err Untold) =
    (answer ≡ Err inputs.Memory) × IsCutOff before after memory_line

-- what was written is the output of the input, and the end is its end
abbrev pub IsAnswered : {End : Type 0} → (List ℕ → List ℕ → End → Type 0) → Option (List ℕ)
    → Option (List ℕ) → Option (List ℕ) → Result End AnswerFault → Type 0
IsAnswered works input before after (Ok end) =
    (output : List ℕ) × ComesTo works input output end × Appends before after output
IsAnswered works input before after (Err ReadFault) = Keeps before after
IsAnswered works input before after (Err TooLong) = IsOver input × Keeps before after
IsAnswered {End} works input before after (Err WriteFault) =
    (output : List ℕ) × (end : End) × ComesTo works input output end
    × IsCutOff before after output
IsAnswered works input before after (Err Memory) = Appends before after memory_line
IsAnswered works input before after (Err Untold) = IsCutOff before after memory_line
