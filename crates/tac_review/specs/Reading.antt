-- How two inputs are answered: both are read to their ends, an output is worked out of both, and
-- that is written.
use Rattle.std.specs.Prelude.{ℕ, List, Option, Result, Ok, Err}
use Rattle.std.specs.Io.KnownBytes.{Appends, Keeps}
use Rattle.tac_io.specs.Answering.{ComesTo, IsAnswered, IsWritten, IsOver, IsCutOff, memory_line}
use Rattle.tac_io.specs.declared.reading.InputFault.{InputFault}
use Rattle.tac_io.specs.declared.answering.AnswerFault.{AnswerFault}
use Rattle.tac_io.specs.declared.answering.AnswerFault.TheVariants.{ReadFault, TooLong}
use Rattle.tac_io.specs.declared.answering.AnswerFault.TheVariants.{WriteFault, Memory, Untold}
use Rattle.tac_review.specs.declared.task.Input.{Input}
use Rattle.tac_review.specs.declared.task.Input.TheVariants.{First, Second}
use Rattle.tac_review.specs.declared.task.ReviewEnd.{ReviewEnd}
use Rattle.tac_review.specs.declared.task.ReviewFault.{ReviewFault}

-- what is wanted of two texts
abbrev pub Wanted : Type 1
Wanted = List ℕ → List ℕ → List ℕ → ReviewEnd → Type 0

-- what is then wanted of the second, given what was to be read of the first
abbrev pub given : Option (List ℕ) → Wanted → List ℕ → List ℕ → ReviewEnd → Type 0
given first wanted two output end =
    ComesTo (λ one output end. wanted one two output end) first output end

-- what the fault of an input that wasn't read leaves
abbrev pub IsNotRead : Option (List ℕ) → Option (List ℕ) → InputFault → AnswerFault → Type 0
IsNotRead before after fault result =
    IsWritten {End = ReviewEnd} before after (Err fault) (Err result)

-- the same, where it was the first input
abbrev pub IsUnread : Option (List ℕ) → Option (List ℕ) → Option (List ℕ) → AnswerFault → Type 0
IsUnread first before after ReadFault = Keeps before after
IsUnread first before after TooLong = IsOver first × Keeps before after
IsUnread first before after WriteFault = ⊥
IsUnread first before after Memory = Appends before after memory_line
IsUnread first before after Untold = IsCutOff before after memory_line

abbrev pub IsFaulty : Wanted → Option (List ℕ) → Option (List ℕ) → Option (List ℕ)
    → Option (List ℕ) → Input → AnswerFault → Type 0
IsFaulty wanted first second before after First fault = IsUnread first before after fault
IsFaulty wanted first second before after Second fault =
    IsAnswered (given first wanted) second before after (Err fault)

-- what was written is the output of both inputs, and the end is theirs; or what a fault leaves
abbrev pub AreAnswered : Wanted → Option (List ℕ) → Option (List ℕ) → Option (List ℕ)
    → Option (List ℕ) → Result ReviewEnd ReviewFault → Type 0
AreAnswered wanted first second before after (Ok end) =
    IsAnswered (given first wanted) second before after (Ok end)
AreAnswered wanted first second before after (Err fault) =
    IsFaulty wanted first second before after fault.input fault.fault
