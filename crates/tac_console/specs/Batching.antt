-- What becomes of the lines of a console, where those from `begin` to `commit` are one batch
-- (docs/CONSOLE.md, "Batches").
use Rattle.std.specs.Prelude.{◌≡◌, ℕ, suc, List, [], ◌∷◌, ◌++◌, length, take, nat_lt}
use Rattle.std.specs.Prelude.{Bool, true, false, IsTrue, Option, Some, None, if◌then◌else◌}
use Rattle.std.specs.List.{list_all}
use Rattle.pol_edit.specs.declared.edit.Edit.{Edit}
use Rattle.pol_edit.specs.declared.fault.EditFault.{EditFault}
use Rattle.pol_edit.specs.declared.fault.EditFault.TheVariants.{BadEdit, Limit}
use Rattle.tac_console.specs.declared.asked.Asked.{Asked}
use Rattle.tac_console.specs.declared.asked.Asked.TheVariants as asks
use Rattle.tac_console.specs.declared.batching.Action.{Action}
use Rattle.tac_console.specs.declared.batching.Action.TheVariants as acts
use Rattle.tac_console.specs.declared.batching.Notice.TheVariants as notices

-- a batch keeps at most so many edits
abbrev pub most : ℕ
most = 64

abbrev pub has_room : List Edit → Bool
has_room kept = nat_lt (length kept) most

-- an answer that the desk isn't asked for
abbrev pub done : Action
done = acts.Tell notices.Done

abbrev pub refused : EditFault → Action
refused fault = acts.Tell (notices.Refused fault)

-- ---- where no batch is open

abbrev pub action_alone : Asked → Action
action_alone (asks.Edit edit) = acts.Edit edit
action_alone (asks.Query query) = acts.Query query
action_alone asks.Begin = done
action_alone asks.Commit = refused BadEdit
action_alone asks.Abandon = refused BadEdit
action_alone asks.Neither = refused BadEdit

abbrev pub after_alone : Asked → Option (List Edit)
after_alone asks.Begin = Some []
after_alone _ = None

-- ---- in a batch that has kept these edits

abbrev pub action_in : List Edit → Asked → Action
action_in kept (asks.Edit edit) =
    if has_room kept then acts.Tell (notices.Kept (suc (length kept))) else refused Limit
action_in kept (asks.Query query) = acts.Query query
action_in kept asks.Begin = refused BadEdit
action_in kept asks.Commit = acts.Commit kept
action_in kept asks.Abandon = done
action_in kept asks.Neither = refused BadEdit

abbrev pub after_in : List Edit → Asked → Option (List Edit)
after_in kept (asks.Edit edit) = Some (if has_room kept then kept ++ edit ∷ [] else kept)
after_in kept asks.Commit = None
after_in kept asks.Abandon = None
after_in kept _ = Some kept

-- ---- both: no batch is open, or these edits are kept

-- what is done where a line asks this
abbrev pub action_of : Option (List Edit) → Asked → Action
action_of None asked = action_alone asked
action_of (Some kept) asked = action_in kept asked

-- the batch from then on
abbrev pub batch_after : Option (List Edit) → Asked → Option (List Edit)
batch_after None asked = after_alone asked
batch_after (Some kept) asked = after_in kept asked

-- whether an edit is kept, which takes memory
abbrev pub keeps : Option (List Edit) → Asked → Bool
keeps (Some kept) (asks.Edit edit) = has_room kept
keeps _ _ = false

-- ---- one line after another

-- the batch that the lines leave which ask these
abbrev pub batch_after_lines : Option (List Edit) → List Asked → Option (List Edit)
batch_after_lines batch [] = batch
batch_after_lines batch (asked ∷ rest) = batch_after_lines (batch_after batch asked) rest

abbrev pub edits_in : List Asked → List Edit
edits_in [] = []
edits_in (asks.Edit edit ∷ rest) = edit ∷ edits_in rest
edits_in (asked ∷ rest) = edits_in rest

-- the line ends no batch
abbrev pub goes_on : Asked → Bool
goes_on asks.Commit = false
goes_on asks.Abandon = false
goes_on asked = true

-- a batch has the first edits that were asked for since `begin`, in their order
abbrev pub HasFirst : List Asked → Type 0
HasFirst lines =
    IsTrue (list_all goes_on lines)
    → batch_after_lines (Some []) lines ≡ Some (take most (edits_in lines))
