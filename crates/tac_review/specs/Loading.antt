-- The edits that make one policy of another, in batches that a console takes (docs/REVIEW.md).
use Rattle.std.specs.Prelude.{◌≡◌, ◌⊎◌, ◌<◌, ◌≤◌, ℕ, zero, suc, List, [], ◌∷◌, ◌++◌, length, map}
use Rattle.std.specs.Prelude.{codes, Ok, Err}
use Rattle.std.specs.List.{flat_map}
use Rattle.std.specs.Fmt.{decimal}
use Rattle.basics.specs.Lines.{lines_of}
use Rattle.pol_text.specs.Policy.{WellFormed}
use Rattle.pol_text.specs.declared.subject.Subject.{Subject}
use Rattle.pol_edit.specs.Applying.{applied}
use Rattle.pol_edit.specs.Batches.{applied_all}
use Rattle.pol_edit.specs.Spelling.{Spells}
use Rattle.pol_edit.specs.FaultText.{batch_fault_text}
use Rattle.pol_edit.specs.declared.edit.Edit.{Edit}
use Rattle.pol_edit.specs.declared.batching.BatchFault.{BatchFault}
use Rattle.pol_update.specs.Update.{HaveSame, AreSteps, Updates}
use Rattle.pol_update.specs.Line.{edit_line}
use Rattle.pol_meaning.specs.Sizes.{IsSmall}
use Rattle.pol_live.specs.Live.{PreparesAll}
use Rattle.tac_console.specs.Answers.{refused}
use Rattle.tac_console.specs.Batching.{most}
use Rattle.tac_console.specs.Spelling.{Spells as SpellsLine}
use Rattle.tac_console.specs.declared.asked.Asked.{Asked}
use Rattle.tac_console.specs.declared.asked.Asked.TheVariants as asks
use Rattle.tac_review.specs.declared.task.ReviewEnd.{ReviewEnd}
use Rattle.tac_review.specs.declared.task.ReviewEnd.TheVariants.{Done, Edited, Refused}

-- ---- what is printed

abbrev pub edit_lines : List Edit → List ℕ
edit_lines edits = flat_map (λ edit. edit_line edit ++ 10 ∷ []) edits

-- edits that are made together
abbrev pub batch_text : List Edit → List ℕ
batch_text batch = codes "begin" ++ 10 ∷ edit_lines batch ++ codes "commit" ++ 10 ∷ []

-- each line spells what it asks of a console, which reads it so
abbrev pub Ask : List (List ℕ) → List Asked → Type 0
Ask [] [] = Unit {0}
Ask (line ∷ lines) (asked ∷ rest) = SpellsLine line asked × Ask lines rest
Ask _ _ = ⊥

-- a batch begins, its edits are asked for, and it is made
abbrev pub batch_asks : List Edit → List Asked
batch_asks batch = asks.Begin ∷ map (λ edit. asks.Edit edit) batch ++ asks.Commit ∷ []

-- why a server would refuse the batch of this number
abbrev pub refused_batch : ℕ → BatchFault → List ℕ
refused_batch number fault =
    codes "batch " ++ decimal number ++ codes ": " ++ refused (batch_fault_text fault)

abbrev pub batches_end : ℕ → ReviewEnd
batches_end zero = Done
batches_end (suc count) = Edited (suc count)

-- ---- what a server does with it

-- a batch has an edit, and no more than a console keeps
abbrev pub IsBatch : List Edit → Type 0
IsBatch batch = (0 < length batch) × (length batch ≤ most)

-- all batches but the last have as many as a console keeps
abbrev pub AreFull : List (List Edit) → Type 0
AreFull [] = Unit {0}
AreFull (batch ∷ []) = Unit {0}
AreFull (batch ∷ next ∷ batches) = (length batch ≡ most) × AreFull (next ∷ batches)

-- the line of an edit spells it, if some policy takes the edit
abbrev pub IsSpelled : Edit → Type 0
IsSpelled edit =
    (policy made : List Subject) → WellFormed policy → applied policy edit ≡ Ok made
    → Spells (edit_line edit) edit

abbrev pub AreSpelled : List Edit → Type 0
AreSpelled [] = Unit {0}
AreSpelled (edit ∷ edits) = IsSpelled edit × AreSpelled edits

-- a server with the first policy takes the batches, one after another, and then has the last policy
abbrev pub Takes : List Subject → List (List Edit) → List Subject → Type 0
Takes policy [] made = policy ≡ made
Takes policy (batch ∷ batches) made =
    (next : List Subject) × IsBatch batch × (applied_all policy batch ≡ Ok next) × IsSmall next
    × Takes next batches made

-- ---- how the edits between two policies are printed

-- the batches make of the old policy one that has the same as the new one. Each of their edits
-- changes something, and none is of a subject that both policies have alike. A console that is
-- given the lines makes the batches
pub record ArePrinted (old new : List Subject) (output : List ℕ) (end : ReviewEnd) : Type 0 where
  pub batches : List (List Edit)
  pub made : List Subject
  pub taken : Takes old batches made
  pub same : HaveSame made new
  pub steps : AreSteps old new old (flat_map (λ edits. edits) batches) made
  pub full : AreFull batches
  pub none : HaveSame old new → batches ≡ []
  pub printed : output ≡ flat_map batch_text batches
  pub ask : Ask (lines_of output) (flat_map batch_asks batches)
  pub ends : end ≡ batches_end (length batches)

-- a batch is refused that comes after these, since it makes a policy that is too large; with the
-- rest they would make the new policy
pub record AreRefused (old new : List Subject) (output : List ℕ) (end : ReviewEnd) : Type 0 where
  pub batches : List (List Edit)
  pub before : List Subject
  pub taken : Takes old batches before
  pub batch : List Edit
  pub fits : IsBatch batch
  pub rest : List Edit
  pub makes : Updates old (flat_map (λ edits. edits) batches ++ (batch ++ rest)) new
  pub full : AreFull (batches ++ batch ∷ [])
  pub filled : 0 < length rest → length batch ≡ most
  pub differ : ¬ HaveSame old new
  pub fault : BatchFault
  pub refused : PreparesAll before batch (Err fault)
  pub printed : output ≡ refused_batch (suc (length batches)) fault
  pub ends : end ≡ Refused

-- there is no third case
abbrev pub Loads : List Subject → List Subject → List ℕ → ReviewEnd → Type 0
Loads old new output end = ArePrinted old new output end ⊎ AreRefused old new output end
