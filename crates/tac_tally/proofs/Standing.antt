-- The account of a user, one more entry on.
use Rattle.std.proofs.Common.{◌≡◌, ℕ, ◌+◌, ◌*◌, ◌^◌, ◌≤◌, false, cond, List, [], ◌∷◌, ◌++◌, length, Option, Some, None, refl, sym, ap, subst, ◌∙◌, arith, inl, inr, Result, Ok, Err}
use Rattle.std.specs.List.{list_any}
use Rattle.std.specs.Str.{bytes_eq}
use Rattle.std.specs.Prelude.{OnOk, OnErr, IsSome}
use Rattle.std.specs.BTreeMap as maps
use Rattle.std.proofs.lemmas.Bool.{cases_Bool, or_parts, or_from, cond-true, cond-false}
use Rattle.std.proofs.lemmas.List.{length_push}
use Rattle.std.proofs.lemmas.List.Folds.{list_any-append}
use Rattle.std.proofs.lemmas.Slice.Eq.{bytes_eq-Decides}
use Rattle.tac_tally.specs.Book.{Entry}
use Rattle.tac_tally.specs.Tally.{tally_of, no_tally, open_tasks, IsBelow}
use Rattle.tac_tally.specs.Counting.{counted, HoldsOpen, is_open}
use Rattle.tac_tally.specs.Accounts.{is_by, but_open, Stands, StandsIf, account_of, Run}
use Rattle.tac_tally.specs.declared.tally.Tally.{Tally}
use Rattle.tac_tally.specs.declared.account.Account.{Account}
use Rattle.tac_tally.specs.declared.accounts.Accounts.{Accounts}
use Rattle.tac_tally.proofs.Texts.{by_items, at_text, account_of-changed}
use Rattle.tac_tally.proofs.Counts.{counts-own, counts-other}
use Rattle.tac_tally.proofs.OpenSet.{holds-other}
use Rattle.tac_tally.proofs.Places.{places-own, places-other, stands_at-none}

pub IsBelow-le : (m n : ℕ) (t : Tally) → m ≤ n → IsBelow m t → IsBelow n t
IsBelow-le m n t le b = record {
  starts = omega arith;
  stops = omega arith;
  watchdogs = omega arith;
  updates = omega arith;
  open_tasks = omega arith;
  elapsed = omega arith;
  drift = omega arith;
}

-- ---- who has no entries

tally-skip : (user : List ℕ) (x : Entry) (xs : List Entry) → is_by user x ≡ false → tally_of user (x ∷ xs) ≡ tally_of user xs
tally-skip user x xs other =
    let none : 0 + open_tasks user xs ≡ open_tasks user xs = omega arith in
    rw other (ap (λ n. record (tally_of user xs) { open_tasks = n }) none)

pub tally-none : (user : List ℕ) (xs : List Entry) → list_any (is_by user) xs ≡ false → tally_of user xs ≡ no_tally
tally-none user [] none = refl
tally-none user (x ∷ xs) none =
    let parts = or_parts (is_by user x) (list_any (is_by user) xs) none in
    tally-skip user x xs parts.0 ∙ tally-none user xs parts.1

pub is_open-none : (user : List ℕ) (xs : List Entry) → list_any (is_by user) xs ≡ false → (task : List ℕ) → is_open user task xs ≡ false
is_open-none user [] none task = refl
is_open-none user (x ∷ xs) none task =
    let parts = or_parts (is_by user x) (list_any (is_by user) xs) none in
    rw (parts.0, is_open-none user xs parts.1 task) refl

pub stands-none : (user : List ℕ) (xs : List Entry) (account : Account) → account.counts ≡ no_tally → account.open_tasks.keys ≡ [] → account.places.items ≡ []
    → list_any (is_by user) xs ≡ false → Stands user xs account
stands-none user xs account zero no_tasks no_places none =
    let all = tally-none user xs none in
    record {
      counts = zero ∙ sym (ap but_open all);
      small = rw zero (record {
        starts = omega arith;
        stops = omega arith;
        watchdogs = omega arith;
        updates = omega arith;
        open_tasks = omega arith;
        elapsed = omega arith;
        drift = omega arith;
      });
      tasks = record {
        has = λ task. rw no_tasks (sym (is_open-none user xs none task));
        many = ap length no_tasks ∙ sym (ap (λ t. t.open_tasks) all);
      };
      places = λ place. rw no_places (sym (stands_at-none (is_by user) xs none place));
    }

-- ---- one more entry

pub stands-other : (user : List ℕ) (xs : List Entry) (e : Entry) (account : Account) → is_by user e ≡ false → Stands user xs account → Stands user (xs ++ e ∷ []) account
stands-other user xs e account other s = record {
  counts = s.counts ∙ sym (counts-other user xs e other);
  small = IsBelow-le (length xs * 2 ^ 32 + 1) (length (xs ++ e ∷ []) * 2 ^ 32 + 1) account.counts (rw (length_push xs e) (omega arith)) s.small;
  tasks = holds-other user xs e account.open_tasks (rw other refl) (rw other refl) s.tasks;
  places = places-other (is_by user) xs e account.places.items other s.places;
}

pub stands-own : (xs : List Entry) (e : Entry) (account after : Account)
    → after.counts ≡ counted e.item e.denied account.counts → ((m : ℕ) → IsBelow m account.counts → IsBelow (m + 2 ^ 32) after.counts)
    → (HoldsOpen e.item.user xs account.open_tasks → HoldsOpen e.item.user (xs ++ e ∷ []) after.open_tasks)
    → after.places.items ≡ account.places.items ++ length xs ∷ []
    → Stands e.item.user xs account → Stands e.item.user (xs ++ e ∷ []) after
stands-own xs e account after is grows turned put s =
    let own = (bytes_eq-Decides e.item.user e.item.user).1 refl in
    record {
      counts = is ∙ ap (counted e.item e.denied) s.counts ∙ sym (counts-own e.item.user xs e own);
      small = IsBelow-le (length xs * 2 ^ 32 + 1 + 2 ^ 32) (length (xs ++ e ∷ []) * 2 ^ 32 + 1) after.counts (rw (length_push xs e) (omega arith)) (grows (length xs * 2 ^ 32 + 1) s.small);
      tasks = turned s.tasks;
      places = rw put (places-own (is_by e.item.user) xs e account.places.items own s.places);
    }

-- ---- the accounts

others : (user : List ℕ) (xs : List Entry) (e : Entry) (found : Option Account) → is_by user e ≡ false → StandsIf user xs found → StandsIf user (xs ++ e ∷ []) found
others user xs e None other h = list_any-append (is_by user) xs (e ∷ []) ∙ or_from _ _ h (or_from _ _ other refl)
others user xs e (Some account) other h = stands-other user xs e account other h

-- the account of the entry's user is the new one
pub run-push : (xs : List Entry) (e : Entry) (old new : Accounts) (after : Account)
    → ((user : List ℕ) → account_of new.by_user user ≡ cond (bytes_eq e.item.user user) (Some after) (account_of old.by_user user))
    → Stands e.item.user (xs ++ e ∷ []) after → Run xs old → Run (xs ++ e ∷ []) new
run-push xs e old new after changed s h user = elim (cases_Bool (bytes_eq e.item.user user)) [
  | inl y ↦
      let same = (bytes_eq-Decides e.item.user user).0 y in
      let found = changed user ∙ cond-true (bytes_eq e.item.user user) (Some after) (account_of old.by_user user) y in
      subst (StandsIf user (xs ++ e ∷ [])) (sym found) (subst (λ u. Stands u (xs ++ e ∷ []) after) same s)
  | inr n ↦
      let found = changed user ∙ cond-false (bytes_eq e.item.user user) (Some after) (account_of old.by_user user) n in
      subst (StandsIf user (xs ++ e ∷ [])) (sym found) (others user xs e (account_of old.by_user user) n (h user))
]

-- what a look-up finds is the user's account
pub stands_found : (user : List ℕ) (xs : List Entry) (found : Option Account) (account : Account) → found ≡ Some account → StandsIf user xs found → Stands user xs account
stands_found user xs found account is h = subst (StandsIf user xs) is h

pub none_found : (user : List ℕ) (xs : List Entry) (found : Option Account) → found ≡ None → StandsIf user xs found → list_any (is_by user) xs ≡ false
none_found user xs found is h = subst (StandsIf user xs) is h

-- the counts of so few entries fit
pub small_found : (user : List ℕ) (xs : List Entry) (account : Account) (n : ℕ) → length xs * 2 ^ 32 + 1 ≤ n → Stands user xs account → IsBelow n account.counts
small_found user xs account n le s = IsBelow-le (length xs * 2 ^ 32 + 1) n account.counts le s.small

-- ---- what a call leaves at success, and at a failure

pub on_ok : {A E P Q : Type 0} (r : Result A E) → (P → Q) → OnOk r P → OnOk r Q
on_ok (Ok a) f p = f p
on_ok (Err e) f p = tt

pub on_err : {A E P Q : Type 0} (r : Result A E) → (P → Q) → OnErr r P → OnErr r Q
on_err (Ok a) f p = tt
on_err (Err e) f p = f p

-- an account was changed or made in the map
pub run-written : (xs : List Entry) (e : Entry) (old new : Accounts) (bytes : List ℕ) (after : Account) → bytes ≡ e.item.user
    → maps.UpdatesBy by_items (at_text bytes) old.by_user new.by_user (Some after) → Stands e.item.user (xs ++ e ∷ []) after → Run xs old → Run (xs ++ e ∷ []) new
run-written xs e old new bytes after is updates =
    run-push xs e old new after (λ user. account_of-changed bytes old.by_user new.by_user (Some after) updates user ∙ ap (λ b. cond (bytes_eq b user) (Some after) (account_of old.by_user user)) is)

-- the same account was put back
run-kept : (xs : List Entry) (old new : Accounts) (user : List ℕ) (after : Account) → ((other : List ℕ) → account_of new.by_user other ≡ cond (bytes_eq user other) (Some after) (account_of old.by_user other))
    → Stands user xs after → Run xs old → Run xs new
run-kept xs old new user after changed s h other = elim (cases_Bool (bytes_eq user other)) [
  | inl y ↦
      let same = (bytes_eq-Decides user other).0 y in
      let found = changed other ∙ cond-true (bytes_eq user other) (Some after) (account_of old.by_user other) y in
      subst (StandsIf other xs) (sym found) (subst (λ u. Stands u xs after) same s)
  | inr n ↦
      let found = changed other ∙ cond-false (bytes_eq user other) (Some after) (account_of old.by_user other) n in
      subst (StandsIf other xs) (sym found) (h other)
]

pub run-stays : (xs : List Entry) (old new : Accounts) (user bytes : List ℕ) (after : Account) → bytes ≡ user
    → maps.UpdatesBy by_items (at_text bytes) old.by_user new.by_user (Some after) → Stands user xs after → Run xs old → Run xs new
run-stays xs old new user bytes after is updates =
    run-kept xs old new user after (λ other. account_of-changed bytes old.by_user new.by_user (Some after) updates other ∙ ap (λ b. cond (bytes_eq b other) (Some after) (account_of old.by_user other)) is)

-- what was found among the accounts
pub found_of : (old : Accounts) (user bytes : List ℕ) (found : Option Account) → bytes ≡ user → found ≡ account_of old.by_user bytes → account_of old.by_user user ≡ found
found_of old user bytes found is at = ap (account_of old.by_user) (sym is) ∙ sym at

pub some_there : (o : Option Account) (account : Account) → Some account ≡ o → IsSome o
some_there o account e = rw (sym e) refl
