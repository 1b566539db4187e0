-- What a desk that was just made represents.
use Rattle.std.specs.Prelude.{◌≡◌, List, Result, Ok, Err}
use Rattle.pol_text.specs.declared.subject.Subject.{Subject}
use Rattle.pol_meaning.specs.Sizes.{IsSmall}
use Rattle.pol_live.specs.declared.fault.BuildFault.{BuildFault}
use Rattle.pol_live.specs.Refusing.{IsRefusedFor}
use Rattle.tac_tally.specs.declared.limit.RecordLimit.{RecordLimit}
use Rattle.tac_desk.specs.Meaning.{Meaning, opened}

-- a desk is made of a policy that may stand; else the first subject that is too large is named
abbrev pub Opens : List Subject → RecordLimit → Result Meaning BuildFault → Type 0
Opens policy limit (Ok meaning) = (meaning ≡ opened policy limit) × IsSmall policy
Opens policy limit (Err fault) = IsRefusedFor policy fault

-- no other answer is right
abbrev pub IsOnlyOpened : List Subject → RecordLimit → Result Meaning BuildFault → Type 0
IsOnlyOpened policy limit answer =
    (other : Result Meaning BuildFault) → Opens policy limit other → answer ≡ other
