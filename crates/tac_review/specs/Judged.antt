-- What is printed of a text by how it is judged.
use Rattle.std.specs.Prelude.{◌≡◌, ℕ, List, Result}
use Rattle.pol_text.specs.declared.subject.Subject.{Subject}
use Rattle.pol_text.specs.declared.fault.PolicyFault.TheVariants as policies
use Rattle.pol_live.specs.Judging.{Judges}
use Rattle.pol_live.specs.declared.judging.TextRefusal.{TextRefusal}
use Rattle.pol_live.specs.declared.judging.TextRefusal.TheVariants.{NoPolicy, TooLarge}
use Rattle.tac_console.specs.Faults.{policy_fault, size_fault}

-- the line that says why a text is refused
abbrev pub refusal_line : TextRefusal → List ℕ
refusal_line (NoPolicy line refusal) = policy_fault (policies.Refused line refusal)
refusal_line (TooLarge subject) = size_fault subject

-- an output and an end that go by the policy of a text, or by why it is refused
abbrev pub ByJudged : {End : Type 0} → (Result (List Subject) TextRefusal → List ℕ → End → Type 0)
    → List ℕ → List ℕ → End → Type 0
ByJudged by text output end =
    (judged : Result (List Subject) TextRefusal) × Judges text judged × by judged output end

-- ---- what a function returned, against what was wanted

-- that is wanted, and nothing else is
pub record IsOnly {End : Type 0} (Wanted : List ℕ → End → Type 0) (output : List ℕ) (end : End)
    : Type 0 where
  pub wanted : Wanted output end
  pub only : (other : List ℕ) (last : End) → Wanted other last → (other ≡ output) × (last ≡ end)
