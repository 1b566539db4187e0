-- Rules that are joined.
use Rattle.std.proofs.Common.{◌≡◌, ◌↔◌, ◌⊎◌, ℕ, Bool, true, false, ◌&&◌, IsTrue, List, [], ◌∷◌, ◌++◌, Some, None, sym, subst, append_assoc, if◌then◌else◌}
use Rattle.std.proofs.lemmas.Bool.{and_parts, and_from}
use Rattle.pol_names.specs.declared.decision.Verdict.{Verdict}
use Rattle.posix_expression.specs.Syntax.{Expression, alternated, is_said, is_formed, is_edged}
use Rattle.posix_expression.specs.Finding.{Finds}
use Rattle.posix_expression.specs.Writing.{either, may_join}
use Rattle.tac_plus_import.specs.declared.block.PolicyRule.{PolicyRule}
use Rattle.tac_plus_import.specs.Lines.{IsWritten, IsPatternOf}
use Rattle.tac_plus_import.specs.Joining.{DecideAlike, of_verdict}
use Rattle.tac_plus_import.proofs.Deciding.{joined_alike, alike_after}
use Rattle.tac_plus_import.proofs.Answering.{pattern_is}

-- what finds what either finds can be said as they can
pub either_said : (first second both : Expression) → IsTrue (is_said first) → IsTrue (is_said second) → either first second ≡ Some both → IsTrue (is_said both)
either_said first second both one other e = by (may_join first second) e
  where
    whole : IsTrue (is_said (alternated first second))
    whole =
        let a = and_parts (is_formed first) (is_edged first) one in
        let b = and_parts (is_formed second) (is_edged second) other in
        and_from (is_formed first && is_formed second) (is_edged first && is_edged second)
        (and_from (is_formed first) (is_formed second) a.0 b.0) (and_from (is_edged first) (is_edged second) a.1 b.1)

    by : (test : Bool) → (if test then Some (alternated first second) else None) ≡ Some both → IsTrue (is_said both)
    by true e = let same : alternated first second ≡ both = cc in subst (λ (x : Expression). IsTrue (is_said x)) same whole
    by false e = absurd cc

pub written_is : (name : List ℕ) (expression : Expression) (pattern : List ℕ) → IsWritten name expression pattern → IsPatternOf name expression pattern
written_is name expression pattern is = pattern_is name expression pattern is.0 is.1

pub joined_rules : (name : List ℕ) (both first second : Expression) (pattern : List ℕ) (one other : PolicyRule) → one.verdict ≡ other.verdict
    → ((arguments : List ℕ) → Finds both arguments ↔ (Finds first arguments ⊎ Finds second arguments))
    → IsWritten name both pattern → IsWritten name first one.pattern → IsWritten name second other.pattern
    → DecideAlike (of_verdict other.verdict pattern ∷ []) (one ∷ other ∷ [])
joined_rules name both first second pattern one other same law whole left right =
    subst (λ (v : Verdict). DecideAlike (of_verdict other.verdict pattern ∷ []) (of_verdict v one.pattern ∷ other ∷ [])) (sym same)
    (joined_alike name other.verdict both first second pattern one.pattern other.pattern law (written_is name both pattern whole) (written_is name first one.pattern left) (written_is name second other.pattern right))

-- one more rule, joined with the last
pub joined_last : (rules : List PolicyRule) (both last next : PolicyRule) → DecideAlike (both ∷ []) (last ∷ next ∷ []) → DecideAlike (rules ++ both ∷ []) ((rules ++ last ∷ []) ++ next ∷ [])
joined_last rules both last next alike =
    subst (λ (r : List PolicyRule). DecideAlike (rules ++ both ∷ []) r) (sym (append_assoc rules (last ∷ []) (next ∷ []))) (alike_after rules (both ∷ []) (last ∷ next ∷ []) alike)
