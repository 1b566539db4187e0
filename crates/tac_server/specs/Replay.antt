-- What the replay of a script writes, and how it ends.
use Rattle.std.specs.Prelude.{◌≡◌, ℕ, List, Option, Result, Ok, Err}
use Rattle.tac_io.specs.Answering.{IsAnswered}
use Rattle.tac_io.specs.declared.answering.AnswerFault.{AnswerFault}
use Rattle.tac_io.specs.declared.answering.AnswerFault.TheVariants as answers
use Rattle.tac_server.specs.Script.{IsWorkedOut}
use Rattle.tac_server.specs.declared.replaying.ReplayEnd.{ReplayEnd}
use Rattle.tac_server.specs.declared.replaying.ReplayFault.{ReplayFault}
use Rattle.tac_server.specs.declared.replaying.ReplayFault.TheVariants.{ReadFault, WriteFault}
use Rattle.tac_server.specs.declared.replaying.ReplayFault.TheVariants.{Memory}

-- a script that is too long is as one that can't be read
abbrev pub fault_by : AnswerFault → ReplayFault
fault_by answers.ReadFault = ReadFault
fault_by answers.TooLong = ReadFault
fault_by answers.WriteFault = WriteFault
fault_by answers.Memory = Memory
fault_by answers.Untold = Memory

abbrev pub replay_end : Result ReplayEnd AnswerFault → Result ReplayEnd ReplayFault
replay_end (Ok end) = Ok end
replay_end (Err fault) = Err (fault_by fault)

-- the script was answered by what it prints, and the replay ends as that tells
pub record IsReplayed (script before after : Option (List ℕ)) (result : Result ReplayEnd ReplayFault)
    : Type 0 where
  pub answer : Result ReplayEnd AnswerFault
  pub answers : IsAnswered IsWorkedOut script before after answer
  pub ends : result ≡ replay_end answer
