-- Sets and maps under byte strings.
use Rattle.std.proofs.Common.{◌≡◌, ℕ, Bool, true, false, cond, List, Option, sym, subst, ◌∙◌, inl, inr}
use Rattle.std.specs.Global.{Vec}
use Rattle.std.specs.List.{list_any}
use Rattle.std.specs.declared.cmp.Ordering.{Ordering}
use Rattle.std.specs.Ordering.{is_eq, nat_cmp, eq_by_cmp}
use Rattle.std.specs.Cmp.{eq_by_cmp_equiv}
use Rattle.std.specs.Cmp.Lexicographic.{slice_cmp, nat_list_cmp_total, nat_list_eq_equiv}
use Rattle.std.specs.Str.{bytes_eq}
use Rattle.std.specs.Map.{lookup, IsKeyTest, AreApart, KeepsOthers}
use Rattle.std.specs.Set.{KeepsOthers as KeepsOtherKeys}
use Rattle.std.specs.BTreeSet.{BTreeSet}
use Rattle.std.specs.BTreeMap.{BTreeMap}
use Rattle.std.specs.BTreeSet as sets
use Rattle.std.specs.BTreeMap as maps
use Rattle.std.proofs.lemmas.Bool.{cases_Bool, cond-true, cond-false}
use Rattle.std.proofs.lemmas.Bool.Decides.{same_from_decides, Decides-like}
use Rattle.std.proofs.lemmas.Map.Text.{is_eq-slice_cmp}
use Rattle.std.proofs.lemmas.Slice.Eq.{bytes_eq-Decides}
use Rattle.tac_tally.specs.Counting.{has_text}
use Rattle.tac_tally.specs.declared.account.Account.{Account}
use Rattle.tac_tally.specs.Accounts.{account_of}

pub bytes_eq_comm : (xs ys : List ℕ) → bytes_eq xs ys ≡ bytes_eq ys xs
bytes_eq_comm xs ys = same_from_decides _ _ (bytes_eq-Decides xs ys) (Decides-like _ (λ e. sym e) (λ e. sym e) (bytes_eq-Decides ys xs))

abbrev pub by_items : Vec ℕ → Vec ℕ → Ordering
by_items x y = slice_cmp nat_cmp x.items y.items

abbrev pub at_text : List ℕ → Vec ℕ → Ordering
at_text text key = slice_cmp nat_cmp text key.items

apart : (bs cs ks : List ℕ) → bytes_eq bs cs ≡ false → is_eq (slice_cmp nat_cmp bs ks) ≡ true → is_eq (slice_cmp nat_cmp cs ks) ≡ false
apart bs cs ks n y =
    let here = sym (is_eq-slice_cmp bs ks) ∙ y in
    is_eq-slice_cmp cs ks ∙ nat_list_eq_equiv.symm cs ks ∙ sym (nat_list_eq_equiv.congr bs ks cs here) ∙ n

other_keys : {K : Type 0} (eq : K → K → Bool) (test : K → Bool) (old new : List K) → KeepsOtherKeys eq test old new
    → (other : K → Bool) → IsKeyTest eq other → AreApart test other → list_any other new ≡ list_any other old
unfolding KeepsOtherKeys
other_keys eq test old new h = h

other_entries : {K X : Type 0} (eq : K → K → Bool) (test : K → Bool) (old new : List (K × X)) → KeepsOthers eq test old new
    → (other : K → Bool) → IsKeyTest eq other → AreApart test other → lookup other new ≡ lookup other old
unfolding KeepsOthers
other_entries eq test old new h = h

-- g is w at bs, and f at other bytes
changed_at : {W : Type 0} (f g : List ℕ → W) (bs : List ℕ) (w : W) → g bs ≡ w → ((cs : List ℕ) → bytes_eq bs cs ≡ false → g cs ≡ f cs)
    → (cs : List ℕ) → g cs ≡ cond (bytes_eq bs cs) w (f cs)
changed_at f g bs w here other cs = elim (cases_Bool (bytes_eq bs cs)) [
  | inl y ↦ subst (λ l. g l ≡ w) ((bytes_eq-Decides bs cs).0 y) here ∙ sym (cond-true (bytes_eq bs cs) w (f cs) y)
  | inr n ↦ other cs n ∙ sym (cond-false (bytes_eq bs cs) w (f cs) n)
]

one_key : (cs : List ℕ) → IsKeyTest (eq_by_cmp by_items) (λ k. is_eq (at_text cs k))
one_key cs x y = (eq_by_cmp_equiv nat_list_cmp_total).congr cs x.items y.items

-- what a set has of which one key was changed
pub has_text-changed : (bytes : List ℕ) (old new : BTreeSet (Vec ℕ)) (b : Bool) → sets.UpdatesBy by_items (at_text bytes) old new b
    → (text : List ℕ) → has_text new text ≡ cond (bytes_eq bytes text) b (has_text old text)
has_text-changed bytes old new b u =
    changed_at (has_text old) (has_text new) bytes b u.1 (λ cs n. other_keys _ _ _ _ u.3 _ (one_key cs) (λ k. apart bytes cs k.items n))

-- the accounts of which one was changed
pub account_of-changed : (bytes : List ℕ) (old new : BTreeMap (Vec ℕ) Account) (w : Option Account) → maps.UpdatesBy by_items (at_text bytes) old new w
    → (user : List ℕ) → account_of new user ≡ cond (bytes_eq bytes user) w (account_of old user)
account_of-changed bytes old new w u =
    changed_at (account_of old) (account_of new) bytes w u.1 (λ cs n. other_entries _ _ _ _ u.3 _ (one_key cs) (λ k. apart bytes cs k.items n))
