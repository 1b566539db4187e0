-- What is kept of a policy that decides, and of a change of it that is ready to be made.
use Rattle.std.specs.Prelude.{◌≡◌, List, Result, Ok, Err, Option, Some, None}
use Rattle.pol_automaton.specs.Automaton.{Automaton, IsDecider}
use Rattle.pol_text.specs.declared.subject.Subject.{Subject}
use Rattle.pol_edit.specs.Applying.{applied}
use Rattle.pol_edit.specs.declared.edit.Edit.{Edit}
use Rattle.pol_edit.specs.declared.fault.EditFault.{EditFault}
use Rattle.pol_edit.specs.Batches.{applied_all, of_all}
use Rattle.pol_edit.specs.declared.batching.BatchFault.{BatchFault}
use Rattle.pol_meaning.specs.Along.{patterns_along}
use Rattle.pol_meaning.specs.Sizes.{IsSmall, IsRefusedAs}
use Rattle.pol_live.specs.declared.fault.BuildFault.{BuildFault}
use Rattle.pol_live.specs.Refusing.{IsRefusedFor}

-- the policy is taken as it is, if it may stand
abbrev pub Builds : List Subject → Result (List Subject) BuildFault → Type 0
Builds policy (Ok built) = (built ≡ policy) × IsSmall policy
Builds policy (Err fault) = IsRefusedFor policy fault

-- a change of a policy: which it was, and which it is then
pub record Step : Type 0 where
  pub before : List Subject
  pub after : List Subject

-- what edits make of a policy is prepared if it may stand, and else refused for its first large
-- subject
abbrev pub PreparesTo : {F : Type 0} → (EditFault → F) → List Subject → Result (List Subject) F
    → Result Step F → Type 0
PreparesTo as_refusal before (Ok after) (Ok step) =
    (step ≡ record { before = before; after = after }) × IsSmall after
PreparesTo as_refusal before (Ok after) (Err fault) = IsRefusedAs as_refusal after fault
PreparesTo as_refusal before (Err refusal) answer = answer ≡ Err refusal

-- a single edit is answered with the refusal itself
abbrev pub Prepares : List Subject → Edit → Result Step EditFault → Type 0
Prepares before edit answer = PreparesTo (λ fault. fault) before (applied before edit) answer

-- edits that are made together, with one that is told of no single edit: only the policy that all
-- of them make has to be small enough
abbrev pub PreparesAll : List Subject → List Edit → Result Step BatchFault → Type 0
PreparesAll before edits answer = PreparesTo of_all before (applied_all before edits) answer

-- another policy is ready to take its place if it may stand, and else refused for its first large
-- subject
abbrev pub Replaces : List Subject → List Subject → Result Step BuildFault → Type 0
Replaces before after (Ok step) =
    (step ≡ record { before = before; after = after }) × IsSmall after
Replaces before after (Err fault) = IsRefusedFor after fault

-- no other answer is right
abbrev pub IsOnlyReplaced : List Subject → List Subject → Result Step BuildFault → Type 0
IsOnlyReplaced before after answer =
    (other : Result Step BuildFault) → Replaces before after other → answer ≡ other

abbrev pub IsOnlyBuilt : List Subject → Result (List Subject) BuildFault → Type 0
IsOnlyBuilt policy answer =
    (other : Result (List Subject) BuildFault) → Builds policy other → answer ≡ other

abbrev pub IsOnlyPrepared : List Subject → Edit → Result Step EditFault → Type 0
IsOnlyPrepared before edit answer =
    (other : Result Step EditFault) → Prepares before edit other → answer ≡ other

abbrev pub IsOnlyPreparedAll : List Subject → List Edit → Result Step BatchFault → Type 0
IsOnlyPreparedAll before edits answer =
    (other : Result Step BatchFault) → PreparesAll before edits other → answer ≡ other

-- the decider of the rules along a subject's chain, or nothing where there is no subject
abbrev pub IsDeciderFor : List Subject → Option Subject → Option Automaton → Type 0
IsDeciderFor policy (Some subject) (Some decider) =
    IsDecider decider (patterns_along policy subject)
IsDeciderFor policy None None = Unit {0}
IsDeciderFor policy _ _ = ⊥
