-- Which texts say a policy that may stand, and why each other is refused.
use Rattle.std.specs.Prelude.{◌≡◌, ℕ, List, Result, Ok, Err}
use Rattle.pol_text.specs.Text.{policy_of}
use Rattle.pol_text.specs.declared.subject.Subject.{Subject}
use Rattle.pol_text.specs.declared.fault.PolicyFault.TheVariants.{Refused}
use Rattle.pol_meaning.specs.Sizes.{IsSmall, IsFirstLarge}
use Rattle.pol_live.specs.declared.judging.TextRefusal.{TextRefusal}
use Rattle.pol_live.specs.declared.judging.TextRefusal.TheVariants.{NoPolicy, TooLarge}

-- a text says a policy that may stand; or none, and is refused at its first fault; or one that is
-- refused for its first large subject
abbrev pub Judges : List ℕ → Result (List Subject) TextRefusal → Type 0
Judges text (Ok policy) = (policy_of text ≡ Ok policy) × IsSmall policy
Judges text (Err (NoPolicy line refusal)) = policy_of text ≡ Err (Refused line refusal)
Judges text (Err (TooLarge subject)) =
    (policy : List Subject) × (policy_of text ≡ Ok policy) × IsFirstLarge policy policy subject

-- no other answer is right
abbrev pub IsOnlyJudged : List ℕ → Result (List Subject) TextRefusal → Type 0
IsOnlyJudged text judged =
    (other : Result (List Subject) TextRefusal) → Judges text other → judged ≡ other
