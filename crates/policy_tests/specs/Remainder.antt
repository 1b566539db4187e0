-- Words that are read as numbers, and told apart by their remainders.
use Rattle.std.specs.Prelude.{◌≡◌, ◌↔◌, ◌+◌, ◌*◌, ◌%◌, ℕ, true, nat_eq, List, fold, refl}
use Rattle.std.proofs.Common.{sym, ap, subst, ◌∙◌, eq-eqb}
use Rattle.std.proofs.lemmas.Bool.{eqb-true}
use Rattle.std.proofs.lemmas.List.Sums.{fold_push}
use Rattle.pol_scan.specs.Words.{longer}
use Rattle.pol_scan.specs.Congruence.{Congruence, Keeps, keeps_itself}
use Rattle.policy_tests.specs.declared.scan.remainders.Numerals.{Numerals}

-- the remainder after one more digit
abbrev pub after : Numerals → ℕ → ℕ → ℕ
after n remainder digit = (remainder * n.base + digit) % n.divisor

-- the remainder of the number that a word spells
abbrev pub remainder : Numerals → List ℕ → ℕ
remainder n word = fold (after n) 0 word

pub remainder-longer : (n : Numerals) (word : List ℕ) (digit : ℕ)
    → remainder n (longer word digit) ≡ after n (remainder n word) digit
remainder-longer n word digit = fold_push (after n) 0 word digit

-- words are the same if their remainders are
abbrev pub remainders : Numerals → Congruence
remainders n = record {
  width = n.base;
  same = λ u v. remainder n u ≡ remainder n v;
  reflexive = λ u. refl;
  symmetric = λ u v e. sym e;
  transitive = λ u v w e f. e ∙ f;
  followed = λ u v digit in_range e.
      remainder-longer n u digit ∙ ap (λ r. after n r digit) e ∙ sym (remainder-longer n v digit);
}

abbrev pub LeadsTo : Numerals → List ℕ → ℕ → Type 0
LeadsTo n word state = state ≡ remainder n word

pub told_apart : (n : Numerals) (u v : List ℕ) (s t : ℕ) → LeadsTo n u s → LeadsTo n v t
    → (nat_eq s t ≡ true) ↔ (remainder n u ≡ remainder n v)
told_apart n u v s t p q = (λ h. sym p ∙ eqb-true s t h ∙ q, λ e. eq-eqb s t (p ∙ e ∙ sym q))

pub kept : (n m : Numerals) → n ≡ m → Keeps (remainders n) (LeadsTo n) (remainders m) (LeadsTo m)
kept n m e =
    subst (λ k. Keeps (remainders n) (LeadsTo n) (remainders k) (LeadsTo k)) e
    (keeps_itself (remainders n) (LeadsTo n))

pub accepted_kept : (n m : Numerals) (target other : ℕ) → n ≡ m → target ≡ other → (word : List ℕ)
    → (remainder n word ≡ target) ↔ (remainder m word ≡ other)
accepted_kept n m target other e f word =
    (λ h. sym (ap (λ k. remainder k word) e) ∙ h ∙ f, λ h. ap (λ k. remainder k word) e ∙ h ∙ sym f)
