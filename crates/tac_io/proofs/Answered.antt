-- An output that was worked out of an input, and then written, answers the input.
use Rattle.std.proofs.Common.{ℕ, List, Option, Result, Ok, Err, OnOk, subst}
use Rattle.std.specs.Global.{Vec}
use Rattle.tac_io.specs.declared.reading.InputFault.{InputFault}
use Rattle.tac_io.specs.declared.answering.AnswerFault.{AnswerFault}
use Rattle.tac_io.specs.declared.answering.AnswerFault.TheVariants.{ReadFault, TooLong}
use Rattle.tac_io.specs.declared.answering.AnswerFault.TheVariants.{WriteFault, Memory, Untold}
use Rattle.tac_io.specs.Answering.{ComesTo, IsWorked, IsWritten, IsAnswered}

module _ {End : Type 0} (works : List ℕ → List ℕ → End → Type 0) (input before after : Option (List ℕ)) where
  pub answered : (answer : Result (Vec ℕ × End) InputFault) (result : Result End AnswerFault)
      → IsWorked works input answer → IsWritten before after answer result → IsAnswered works input before after result
  answered (Ok output) (Ok end) worked written =
      (output.0.items, subst (λ last. ComesTo works input output.0.items last) written.0 worked, written.1)
  answered (Err fault) (Ok end) worked written = absurd written
  answered answer (Err ReadFault) worked written = written.1
  answered answer (Err TooLong) worked written = (subst (IsWorked works input) written.0 worked, written.1)
  answered (Ok output) (Err WriteFault) worked written = (output.0.items, output.1, worked, written)
  answered (Err fault) (Err WriteFault) worked written = absurd written
  answered answer (Err Memory) worked written = written.1
  answered answer (Err Untold) worked written = written.1

  -- what holds of each output holds of each end
  pub at_end : (P : Type 0) (answer : Result (Vec ℕ × End) InputFault) (result : Result End AnswerFault)
      → OnOk answer P → IsWritten before after answer result → OnOk result P
  at_end P (Ok output) (Ok end) holds written = holds
  at_end P (Err fault) (Ok end) holds written = absurd written
  at_end P answer (Err fault) holds written = tt
