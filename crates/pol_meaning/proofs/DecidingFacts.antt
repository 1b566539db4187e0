-- What a policy permits is what the first entry whose set holds the line permits.
use Rattle.std.proofs.Common.{◌≡◌, ◌↔◌, ◌⊎◌, inl, inr, ℕ, Bool, true, false, IsTrue, List, [], ◌∷◌, Option, Some, None, refl, if◌then◌else◌}
use Rattle.std.specs.Option.{option_map, option_map_or}
use Rattle.basics.specs.Symbol.{is_text}
use Rattle.pol_pattern.specs.Matching.{matches}
use Rattle.pol_pattern.proofs.HeldTexts.{match_law}
use Rattle.pol_names.specs.SubjectId.{user_id}
use Rattle.pol_names.specs.declared.decision.Verdict.{Verdict}
use Rattle.pol_names.specs.declared.decision.Verdict.TheVariants.{Permit, Deny}
use Rattle.pol_names.specs.declared.decision.Decision.{Decision}
use Rattle.pol_text.specs.declared.subject.Subject.{Subject}
use Rattle.pol_text.specs.Policy.{find_subject, Entry, entries, first_entry, decision}
use Rattle.pol_meaning.specs.LineChanges.{is_permit}
use Rattle.pol_meaning.specs.Deciding.{PermitsFirst, DecisionLaw}

permit : (verdict : Verdict) → is_permit verdict ≡ true → verdict ≡ Permit
permit Permit e = refl
permit Deny e = absurd cc

abbrev Permitted : Decision → Type 0
Permitted decision = is_permit decision.verdict ≡ true

-- one entry, and then the others
module _ {Held Later : Type 0} (here rest : Decision) where
  found : (test : Bool) → (IsTrue test ↔ Held) → (Permitted rest → Later) → Permitted (if test then here else rest)
      → (Held × (here.verdict ≡ Permit)) ⊎ ((¬ Held) × Later)
  found true law later e = inl (law.0 refl, permit here.verdict e)
  found false law later e = inr ((λ held. let e : false ≡ true = law.1 held in absurd cc), later e)

  back : (test : Bool) → (IsTrue test ↔ Held) → (Later → Permitted rest) → (Held × (here.verdict ≡ Permit)) ⊎ ((¬ Held) × Later)
      → Permitted (if test then here else rest)
  back true law later (inl held) = rw held.1 refl
  back true law later (inr other) = absurd (other.0 (law.0 refl))
  back false law later (inl held) = let e : false ≡ true = law.1 held.0 in absurd cc
  back false law later (inr other) = later other.1

to_sets : (along : List Entry) (line : List ℕ) → Permitted (first_entry along line) → PermitsFirst along line
to_sets [] line e = let e : false ≡ true = e in absurd cc
to_sets (entry ∷ rest) line e = found _ (first_entry rest line) (matches entry.rule.pattern line) (match_law.same entry.rule.pattern line) (to_sets rest line) e

from_sets : (along : List Entry) (line : List ℕ) → PermitsFirst along line → Permitted (first_entry along line)
from_sets [] line h = absurd h
from_sets (entry ∷ rest) line h = back _ (first_entry rest line) (matches entry.rule.pattern line) (match_law.same entry.rule.pattern line) (from_sets rest line) h

first_texts : (along : List Entry) (line : List ℕ) → PermitsFirst along line → IsTrue (is_text line)
first_texts [] line h = absurd h
first_texts (entry ∷ rest) line (inl held) = match_law.texts entry.rule.pattern line held.0
first_texts (entry ∷ rest) line (inr other) = first_texts rest line other.1

-- the user, who may be absent
by_user : (policy : List Subject) (line : List ℕ) (there : Option Subject)
    → option_map_or (λ (decision : Decision). is_permit decision.verdict) (option_map (λ user. decision policy user line) there) false ≡ true
    → (subject : Subject) × (there ≡ Some subject) × PermitsFirst (entries policy subject) line
by_user policy line (Some subject) e = (subject, refl, to_sets (entries policy subject) line e)
by_user policy line None e = let e : false ≡ true = e in absurd cc

from_user : (policy : List Subject) (line : List ℕ) (there : Option Subject) (subject : Subject) → there ≡ Some subject → PermitsFirst (entries policy subject) line
    → option_map_or (λ (decision : Decision). is_permit decision.verdict) (option_map (λ user. decision policy user line) there) false ≡ true
from_user policy line there subject e h = rw e (from_sets (entries policy subject) line h)

pub decision_law : DecisionLaw
decision_law = record {
  permitted = λ policy user line.
      (by_user policy line (find_subject (user_id user) policy), λ h. from_user policy line (find_subject (user_id user) policy) h.0 h.1 h.2);
  texts = λ policy user line e.
      let h = by_user policy line (find_subject (user_id user) policy) e in first_texts (entries policy h.0) line h.2;
}
