-- What a desk that keeps automata and marks represents, how much building the automata made,
-- and what holds of the marks.
use Rattle.std.specs.Prelude.{◌≡◌, ℕ, List, map, Result, Ok, Err}
use Rattle.pol_text.specs.declared.subject.Subject.{Subject}
use Rattle.pol_meaning.specs.declared.Changed.{Changed}
use Rattle.pol_live.specs.declared.fault.BuildFault.{BuildFault}
use Rattle.tac_tally.specs.Book.{Contents}
use Rattle.tac_desk.specs.Meaning.{Meaning}
use Rattle.tac_desks.specs.Kept.{entries_by}

-- the meaning, and beside it the number of states of all automata that were built
pub record Metered : Type 0 where
  pub meaning : Meaning
  pub meter : ℕ

-- a desk that was made, or a refusal, without what the meter shows
abbrev pub unmetered : Result Metered BuildFault → Result Meaning BuildFault
unmetered (Ok desk) = Ok desk.meaning
unmetered (Err fault) = Err fault

-- beside each record stands what this policy says of its line
abbrev pub HasMarksBy : List Subject → Contents → Type 0
HasMarksBy policy book = book.entries ≡ entries_by policy book

-- the users for whom something changes
abbrev pub names : List Changed → List (List ℕ)
names changes = map (λ change. change.user) changes
