-- A subject of a policy has few rules.
use Rattle.std.proofs.Common.{◌≡◌, ◌<◌, ◌≤◌, ℕ, Bool, true, false, nat_le, List, length, refl, arith, get_or}
use Rattle.std.specs.List.{list_all}
use Rattle.std.proofs.lemmas.Bool.{and_parts}
use Rattle.std.proofs.lemmas.Bool.Decides.{nat_tests}
use Rattle.std.proofs.lemmas.List.Folds.{list_all_at}
use Rattle.pol_text.specs.declared.subject.Subject.{Subject}
use Rattle.pol_text.specs.Policy.{is_right_subject, is_right_rule, max_rules, max_services}
use Rattle.pol_text.proofs.RightSubject.{right_parts}
use Rattle.pol_text.proofs.ServiceLines.{lines_parts}

few_right : (s : Subject) → is_right_subject s ≡ true → length s.rules ≤ max_rules
few_right s right =
    let front = (and_parts _ (list_all is_right_rule s.rules) right).0 in
    let few = (and_parts _ (nat_le (length s.rules) max_rules) front).1 in
    grind (arith, nat_tests)

pub few_at : (policy : List Subject) (i : ℕ) (d : Subject) → list_all is_right_subject policy ≡ true → i < length policy
    → length (get_or policy i d).rules ≤ max_rules
few_at policy i d right lt = by (is_right_subject (get_or policy i d)) refl
  where
    by : (b : Bool) → is_right_subject (get_or policy i d) ≡ b → length (get_or policy i d).rules ≤ max_rules
    by true e = few_right (get_or policy i d) e
    by false e = let wrong = list_all_at is_right_subject policy i d lt e in absurd cc

-- and few lines about services
pub few_lines_at : (policy : List Subject) (i : ℕ) (d : Subject) → list_all is_right_subject policy ≡ true → i < length policy
    → length (get_or policy i d).services ≤ max_services
few_lines_at policy i d right lt = by (is_right_subject (get_or policy i d)) refl
  where
    by : (b : Bool) → is_right_subject (get_or policy i d) ≡ b → length (get_or policy i d).services ≤ max_services
    by true e = (lines_parts (get_or policy i d).services (right_parts (get_or policy i d) e).services).few
    by false e = let wrong = list_all_at is_right_subject policy i d lt e in absurd cc
