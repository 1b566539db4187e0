-- What is kept under places, and under two of them.
use Rattle.std.specs.Option.{option_copied, option_cmp}
use Rattle.std.proofs.Common.{◌≡◌, ℕ, Bool, true, false, cond, Bor, Option, None, Some, Result, Ok, Err, IfSome, OnOk, refl, sym, ap, subst, ◌∙◌, arith}
use Rattle.std.specs.BTreeMap.{BTreeMap, get, is_at, Updates}
use Rattle.std.specs.Ordering.{nat_cmp, is_eq, ordering_then}
use Rattle.std.specs.declared.cmp.Ordering.{Ordering}
use Rattle.std.specs.declared.cmp.Ordering.TheVariants.{Less, Equal, Greater}
use Rattle.std.proofs.lemmas.Bool.Decides.{nat_tests}
use Rattle.std.proofs.lemmas.Option.{same_Some}
use Rattle.pol_report.specs.Sharing.{by_places}

pub same_place : (k q : ℕ) → is_at (nat_cmp k) q ≡ true → k ≡ q
same_place k q at = grind (arith, nat_tests)

both_equal : (a b : Ordering) → is_eq (ordering_then a b) ≡ true → (is_eq a ≡ true) × (is_eq b ≡ true)
both_equal Less b e = absurd cc
both_equal Equal b e = (refl, e)
both_equal Greater b e = absurd cc

same_option : (k q : Option ℕ) → is_eq (option_cmp nat_cmp k q) ≡ true → k ≡ q
same_option None None at = refl
same_option None (Some y) at = absurd cc
same_option (Some x) None at = absurd cc
same_option (Some x) (Some y) at = ap Some (same_place x y at)

pub same_places : (k q : Option ℕ × Option ℕ) → is_at (by_places k) q ≡ true → k ≡ q
same_places (a, b) (c, d) at =
    let both = both_equal (option_cmp nat_cmp a c) (option_cmp nat_cmp b d) at in
    let first = same_option a c both.0 in
    let second = same_option b d both.1 in
    λ i. (first i, second i)

-- what is so of each key, and of one that is written
module _ {K V : Type 0} (order : K → K → Ordering) (same : (k q : K) → is_at (order k) q ≡ true → k ≡ q) where
  pub written : (R : K → V → Type 0) (old new : BTreeMap K V) (k : K) (v : V) → Updates order old new k (Some v) → R k v
      → ((q : K) (x : V) → get order old q ≡ Some x → R q x) → (q : K) (x : V) → get order new q ≡ Some x → R q x
  written R old new k v updates right all q x found = by (is_at (order k) q) refl (sym (updates.0 q) ∙ found)
    where
      by : (b : Bool) → is_at (order k) q ≡ b → cond b (Some v) (get order old q) ≡ Some x → R q x
      by true at is = subst (λ (n : K). R n x) (same k q at) (subst (λ (y : V). R k y) (same_Some v x is) right)
      by false at is = all q x is

pub on_ok_so : {X E A B : Type 0} (r : Result X E) → (A → B) → OnOk r A → OnOk r B
on_ok_so (Ok x) so h = so h
on_ok_so (Err e) so h = tt

pub on_ok_always : {X E A : Type 0} (r : Result X E) → A → OnOk r A
on_ok_always (Ok x) h = h
on_ok_always (Err e) h = tt

-- what is so of each value that is found is so of the one that is lent
pub found_so : {V : Type 0} (P : V → Type 0) (lent : Option (Bor V)) (found : Option V) → option_copied lent ≡ found → ((v : V) → found ≡ Some v → P v) → IfSome lent (λ v. P v.now)
found_so P None found is all = tt
found_so P (Some v) found is all = all v.now (sym is)
