-- An edit that is made alone has one right answer: that of a batch of one, without the number.
use Rattle.std.proofs.Common.{◌≡◌, Bool, true, false, ◌&&◌, List, [], ◌∷◌, Result, Ok, Err, refl, sym, ap, subst, ◌∙◌}
use Rattle.basics.specs.Memory.{Except}
use Rattle.pol_text.specs.declared.subject.Subject.{Subject}
use Rattle.pol_edit.specs.Applying.{applied, is_memory}
use Rattle.pol_edit.specs.Batches.{of_all, of_edit, then, applied_from, ran_out}
use Rattle.pol_edit.specs.declared.edit.Edit.{Edit}
use Rattle.pol_edit.specs.declared.fault.EditFault.{EditFault}
use Rattle.pol_edit.specs.declared.batching.BatchFault.{BatchFault}
use Rattle.pol_meaning.specs.Memory.{UnlessMemory}
use Rattle.pol_meaning.specs.declared.Changes.{Changes}
use Rattle.tac_desk.specs.Meaning.{Meaning}
use Rattle.tac_desk.specs.Editing.{EditsTo, IsOnly, IsOnlyAll}

abbrev pub unnumbered : {X : Type 0} → Result X BatchFault → Result X EditFault
unnumbered (Ok value) = Ok value
unnumbered (Err refusal) = Err refusal.fault

-- where a batch is refused because memory ran out, so is its edit
except_so : {A B : Type 0} (all memory : Bool) → (A → B) → Except (all && memory) A → Except memory B
except_so true true so h = tt
except_so true false so h = so h
except_so false true so h = tt
except_so false false so h = so h

module _ (before after : Meaning) where
  -- what the edit makes of the policy is what the batch makes of it
  only_to : (made : Result (List Subject) EditFault) (answer : Result Changes BatchFault)
      → ((other : Result Changes BatchFault) (later : Meaning) → EditsTo of_all before (then 1 made (applied_from 2 [])) other later → (answer ≡ other) × (after ≡ later))
      → (other : Result Changes EditFault) (later : Meaning) → EditsTo (λ fault. fault) before made other later → (unnumbered answer ≡ other) × (after ≡ later)
  only_to (Ok policy) answer only (Ok changes) later k = let same = only (Ok changes) later k in (ap unnumbered same.0, same.1)
  only_to (Ok policy) answer only (Err fault) later k =
      let same = only (Err (of_all fault)) later ((k.0.0, ap of_all k.0.1, k.0.2), k.1) in (ap unnumbered same.0, same.1)
  only_to (Err fault) answer only other later k = let same = only (Err (of_edit 1 fault)) later (refl, k.1) in (ap unnumbered same.0 ∙ sym k.0, same.1)

  only_of : (edit : Edit) (answer : Result Changes BatchFault) → UnlessMemory ran_out answer (IsOnlyAll before (edit ∷ []) answer after)
      → UnlessMemory is_memory (unnumbered answer) (IsOnly before edit (unnumbered answer) after)
  only_of edit (Ok changes) only = only_to (applied before.policy edit) (Ok changes) only
  only_of edit (Err refusal) only = except_so _ (is_memory refusal.fault) (only_to (applied before.policy edit) (Err refusal)) only

  pub only_alone : (edit : Edit) (edits : List Edit) (all : Result Changes BatchFault) (answer : Result Changes EditFault) → answer ≡ unnumbered all → edits ≡ edit ∷ []
      → UnlessMemory ran_out all (IsOnlyAll before edits all after) → UnlessMemory is_memory answer (IsOnly before edit answer after)
  only_alone edit edits all answer so alone only =
      subst (λ (r : Result Changes EditFault). UnlessMemory is_memory r (IsOnly before edit r after)) (sym so)
      (only_of edit all (subst (λ (l : List Edit). UnlessMemory ran_out all (IsOnlyAll before l all after)) alone only))
