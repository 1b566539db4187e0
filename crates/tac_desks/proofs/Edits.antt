-- Edits that were prepared, or refused in the one way that there is, have one right answer.
use Rattle.std.proofs.Common.{◌≡◌, Bool, true, false, List, [], ◌∷◌, Result, Ok, Err, OnOk, refl, sym, ap, subst, ◌∙◌}
use Rattle.basics.specs.Memory.{Except}
use Rattle.pol_text.specs.declared.subject.Subject.{Subject}
use Rattle.pol_edit.specs.Batches.{of_all, applied_all}
use Rattle.pol_edit.specs.declared.edit.Edit.{Edit}
use Rattle.pol_edit.specs.declared.fault.EditFault.{EditFault}
use Rattle.pol_live.specs.declared.fault.BuildFault.{BuildFault}
use Rattle.pol_live.specs.declared.fault.BuildFault.TheVariants.{TooManyStates, Memory}
use Rattle.pol_live.specs.Refusing.{edit_fault}
use Rattle.pol_live.specs.Refusing as refusing
use Rattle.pol_edit.specs.Applying.{is_memory}
use Rattle.pol_edit.specs.declared.batching.BatchFault.{BatchFault}
use Rattle.pol_live.specs.Live.{Step, PreparesTo, PreparesAll, IsOnlyPreparedAll, Replaces, IsOnlyReplaced}
use Rattle.pol_meaning.specs.Changes.{AreChanges}
use Rattle.pol_meaning.specs.declared.Changes.{Changes}
use Rattle.tac_desk.specs.Meaning.{Meaning, with_policy}
use Rattle.tac_desk.specs.Editing.{EditsTo, IsOnlyAll, IsOnlyLoaded}
use Rattle.tac_desk.proofs.Alone.{unnumbered}

pub except_so : {A B : Type 0} (memory : Bool) → (A → B) → Except memory A → Except memory B
except_so true so h = tt
except_so false so h = so h

-- ---- they are accepted

accepted_only_to : (before : Meaning) (made : Result (List Subject) BatchFault) (step : Step) (changes : Changes) → PreparesTo of_all before.policy made (Ok step)
    → ((other : Result Step BatchFault) → PreparesTo of_all before.policy made other → Ok step ≡ other)
    → ((other : Changes) → AreChanges before.policy step.after other → changes ≡ other)
    → (other : Result Changes BatchFault) (later : Meaning) → EditsTo of_all before made other later → (Ok changes ≡ other) × (with_policy step.after before ≡ later)
accepted_only_to before (Ok policy) step changes h only alone (Ok other) later k =
    let same : step.after ≡ policy = ap (λ (s : Step). s.after) h.0 in (
      ap (λ (c : Changes). Ok c) (alone other (subst (λ (p : List Subject). AreChanges before.policy p other) (sym same) k.1)),
      ap (λ (p : List Subject). with_policy p before) same ∙ sym k.2,
    )
accepted_only_to before (Ok policy) step changes h only alone (Err fault) later k =
    let e : Ok step ≡ Err fault = only (Err fault) k.0 in absurd cc
accepted_only_to before (Err refusal) step changes h only alone other later k = absurd cc

pub accepted_only : (before : Meaning) (edits : List Edit) (step : Step) (changes : Changes) → PreparesAll before.policy edits (Ok step) → IsOnlyPreparedAll before.policy edits (Ok step)
    → ((other : Changes) → AreChanges before.policy step.after other → changes ≡ other) → IsOnlyAll before edits (Ok changes) (with_policy step.after before)
accepted_only before edits step changes = accepted_only_to before (applied_all before.policy edits) step changes

-- ---- they are refused

refused_only_to : (before : Meaning) (made : Result (List Subject) BatchFault) (fault : BatchFault)
    → ((other : Result Step BatchFault) → PreparesTo of_all before.policy made other → Err fault ≡ other)
    → (other : Result Changes BatchFault) (later : Meaning) → EditsTo of_all before made other later → (Err fault ≡ other) × (before ≡ later)
refused_only_to before (Ok policy) fault only (Ok changes) later k =
    let made : Step = record { before = before.policy; after = policy } in
    let e : ◌≡◌ {A = Result Step BatchFault} (Err fault) (Ok made) = only (Ok made) (refl, k.0) in absurd cc
refused_only_to before (Ok policy) fault only (Err other) later k =
    let e : Err fault ≡ Err other = only (Err other) k.0 in
    let same : fault ≡ other = cc in (ap (λ (f : BatchFault). Err f) same, sym k.1)
refused_only_to before (Err refusal) fault only other later k =
    let e : Err fault ≡ Err refusal = only (Err refusal) refl in
    let same : fault ≡ refusal = cc in (ap (λ (f : BatchFault). Err f) same ∙ sym k.0, sym k.1)

pub refused_only : (before : Meaning) (edits : List Edit) (fault : BatchFault) → IsOnlyPreparedAll before.policy edits (Err fault) → IsOnlyAll before edits (Err fault) before
refused_only before edits fault = refused_only_to before (applied_all before.policy edits) fault

-- ---- one that is made alone

-- what is so of an accepted batch of one is so of its edit
pub made_alone : {X : Type 0} (fact : List Edit → Type 0) (edit : Edit) (edits : List Edit) (all : Result X BatchFault) (answer : Result X EditFault)
    → answer ≡ unnumbered all → edits ≡ edit ∷ [] → OnOk all (fact edits) → OnOk answer (fact (edit ∷ []))
made_alone {X} fact edit edits all answer so alone h = subst (λ (r : Result X EditFault). OnOk r (fact (edit ∷ []))) (sym so) (by all h)
  where
    by : (all : Result X BatchFault) → OnOk all (fact edits) → OnOk (unnumbered all) (fact (edit ∷ []))
    by (Ok value) h = subst fact alone h
    by (Err refusal) h = tt

-- ---- another policy

pub accepted_loaded : (before : Meaning) (policy : List Subject) (step : Step) (changes : Changes) → Replaces before.policy policy (Ok step) → IsOnlyReplaced before.policy policy (Ok step)
    → ((other : Changes) → AreChanges before.policy step.after other → changes ≡ other) → IsOnlyLoaded before policy (Ok changes) (with_policy step.after before)
accepted_loaded before policy step changes h only alone (Ok other) later k =
    let same : step.after ≡ policy = ap (λ (s : Step). s.after) h.0 in (
      ap (λ (c : Changes). Ok c) (alone other (subst (λ (p : List Subject). AreChanges before.policy p other) (sym same) k.1)),
      ap (λ (p : List Subject). with_policy p before) same ∙ sym k.2,
    )
accepted_loaded before policy step changes h only alone (Err fault) later k =
    let e : ◌≡◌ {A = Result Step BuildFault} (Ok step) (Err (TooManyStates k.0.0)) = only (Err (TooManyStates k.0.0)) k.0.2 in absurd cc

pub refused_loaded : (before : Meaning) (policy : List Subject) (fault : BuildFault) → IsOnlyReplaced before.policy policy (Err fault) → IsOnlyLoaded before policy (Err (edit_fault fault)) before
refused_loaded before policy fault only (Ok changes) later k =
    let made : Step = record { before = before.policy; after = policy } in
    let e : ◌≡◌ {A = Result Step BuildFault} (Err fault) (Ok made) = only (Ok made) (refl, k.0) in absurd cc
refused_loaded before policy fault only (Err other) later k =
    let e : ◌≡◌ {A = Result Step BuildFault} (Err fault) (Err (TooManyStates k.0.0)) = only (Err (TooManyStates k.0.0)) k.0.2 in
    let same : fault ≡ TooManyStates k.0.0 = cc in (ap (λ (f : BuildFault). Err (edit_fault f)) same ∙ ap (λ (f : EditFault). Err f) (sym k.0.1), sym k.1)

pub except_built : {A B : Type 0} (fault : BuildFault) → (A → B) → Except (refusing.is_memory fault) A → Except (is_memory (edit_fault fault)) B
except_built (TooManyStates id) so h = so h
except_built Memory so h = tt
