-- A policy is built, and edits prepared, in one way.
use Rattle.std.proofs.Common.{◌≡◌, Bool, true, false, List, [], ◌∷◌, Result, Ok, Err, IfErr, refl, sym, ap, ◌∙◌, inl, inr}
use Rattle.basics.specs.Memory.{Except}
use Rattle.pol_names.specs.declared.subject_id.SubjectId.{SubjectId}
use Rattle.pol_text.specs.declared.subject.Subject.{Subject}
use Rattle.pol_edit.specs.Applying.{applied}
use Rattle.pol_edit.specs.Batches.{of_all, applied_all}
use Rattle.pol_edit.specs.declared.batching.BatchFault.{BatchFault}
use Rattle.pol_edit.specs.declared.edit.Edit.{Edit}
use Rattle.pol_edit.specs.declared.fault.EditFault.{EditFault}
use Rattle.pol_edit.specs.declared.fault.EditFault.TheVariants as edits
use Rattle.pol_meaning.specs.Sizes.{AreSmall, IsFirstLarge, IsRefusedAs}
use Rattle.pol_live.specs.declared.fault.BuildFault.{BuildFault}
use Rattle.pol_live.specs.declared.fault.BuildFault.TheVariants.{TooManyStates, Memory}
use Rattle.pol_live.specs.Refusing.{is_memory}
use Rattle.pol_live.specs.Live.{Builds, Step, PreparesTo, Prepares, PreparesAll, Replaces}
use Rattle.pol_meaning.specs.Memory.{UnlessMemory}

module _ (policy : List Subject) where
  pub first_unique : (subjects : List Subject) (a b : SubjectId) → IsFirstLarge policy subjects a → IsFirstLarge policy subjects b → a ≡ b
  first_unique [] a b h k = absurd h
  first_unique (s ∷ rest) a b (inl h) (inl k) = h.1 ∙ sym k.1
  first_unique (s ∷ rest) a b (inl h) (inr k) = absurd (k.0 h.0)
  first_unique (s ∷ rest) a b (inr h) (inl k) = absurd (h.0 k.0)
  first_unique (s ∷ rest) a b (inr h) (inr k) = first_unique rest a b h.1 k.1

  pub none_large : (subjects : List Subject) (id : SubjectId) → AreSmall policy subjects → IsFirstLarge policy subjects id → ⊥
  none_large [] id small h = h
  none_large (s ∷ rest) id small (inl h) = small.0 h.0
  none_large (s ∷ rest) id small (inr h) = none_large rest id small.1 h.1

  refused_unique : {F : Type 0} (as_refusal : EditFault → F) (a b : F) → IsRefusedAs as_refusal policy a → IsRefusedAs as_refusal policy b → a ≡ b
  refused_unique as_refusal a b h k = h.1 ∙ ap (λ (id : SubjectId). as_refusal (edits.TooManyStates id)) (first_unique policy h.0 k.0 h.2 k.2) ∙ sym k.1

  -- a small one is refused only where memory runs out
  pub small_memory : (r : Result (List Subject) BuildFault) → AreSmall policy policy → UnlessMemory is_memory r (Builds policy r) → IfErr r (λ fault. fault ≡ Memory)
  small_memory (Ok built) small h = tt
  small_memory (Err Memory) small h = refl
  small_memory (Err (TooManyStates id)) small h = absurd (none_large policy id small h)

  pub only_built : (a b : Result (List Subject) BuildFault) → Builds policy a → Builds policy b → a ≡ b
  only_built (Ok a) (Ok b) h k = ap Ok (h.0 ∙ sym k.0)
  only_built (Ok a) (Err Memory) h k = absurd k
  only_built (Ok a) (Err (TooManyStates id)) h k = absurd (none_large policy id h.1 k)
  only_built (Err Memory) b h k = absurd h
  only_built (Err (TooManyStates id)) (Ok b) h k = absurd (none_large policy id k.1 h)
  only_built (Err (TooManyStates id)) (Err Memory) h k = absurd k
  only_built (Err (TooManyStates id)) (Err (TooManyStates other)) h k = ap (λ (id : SubjectId). Err (TooManyStates id)) (first_unique policy id other h k)

only_prepared_to : {F : Type 0} (as_refusal : EditFault → F) (before : List Subject) (made : Result (List Subject) F) (a b : Result Step F)
    → PreparesTo as_refusal before made a → PreparesTo as_refusal before made b → a ≡ b
only_prepared_to as_refusal before (Ok after) (Ok a) (Ok b) h k = ap Ok (h.0 ∙ sym k.0)
only_prepared_to as_refusal before (Ok after) (Ok a) (Err b) h k = absurd (none_large after after k.0 h.1 k.2)
only_prepared_to as_refusal before (Ok after) (Err a) (Ok b) h k = absurd (none_large after after h.0 k.1 h.2)
only_prepared_to as_refusal before (Ok after) (Err a) (Err b) h k = ap Err (refused_unique after as_refusal a b h k)
only_prepared_to as_refusal before (Err fault) a b h k = h ∙ sym k

pub only_prepared : (before : List Subject) (edit : Edit) (a b : Result Step EditFault) → Prepares before edit a → Prepares before edit b → a ≡ b
only_prepared before edit a b = only_prepared_to (λ fault. fault) before (applied before edit) a b

pub only_prepared_all : (before : List Subject) (edits : List Edit) (a b : Result Step BatchFault) → PreparesAll before edits a → PreparesAll before edits b → a ≡ b
only_prepared_all before edits a b = only_prepared_to of_all before (applied_all before edits) a b

pub unless_so : {X E A B : Type 0} (is_memory : E → Bool) (r : Result X E) → (A → B) → UnlessMemory is_memory r A → UnlessMemory is_memory r B
unless_so is_memory (Ok x) so h = so h
unless_so is_memory (Err fault) so h = by (is_memory fault) so h
  where
    by : {A B : Type 0} (memory : Bool) → (A → B) → Except memory A → Except memory B
    by true so h = tt
    by false so h = so h

pub only_replaced : (before after : List Subject) (a b : Result Step BuildFault) → Replaces before after a → Replaces before after b → a ≡ b
only_replaced before after (Ok a) (Ok b) h k = ap Ok (h.0 ∙ sym k.0)
only_replaced before after (Ok a) (Err Memory) h k = absurd k
only_replaced before after (Ok a) (Err (TooManyStates id)) h k = absurd (none_large after after id h.1 k)
only_replaced before after (Err Memory) b h k = absurd h
only_replaced before after (Err (TooManyStates id)) (Ok b) h k = absurd (none_large after after id k.1 h)
only_replaced before after (Err (TooManyStates id)) (Err Memory) h k = absurd k
only_replaced before after (Err (TooManyStates id)) (Err (TooManyStates other)) h k = ap (λ (id : SubjectId). Err (TooManyStates id)) (first_unique after after id other h k)
