-- Another mark at a place.
use Rattle.std.proofs.Common.{◌≡◌, ℕ, zero, suc, ◌+◌, ◌*◌, ◌-◌, ◌^◌, ◌<◌, ◌≤◌, Bool, true, false, ◌||◌, cond, List, [], ◌∷◌, length, count_by, sum_by, filter, Option, Some, None, refl, sym, ap, subst, ◌∙◌, arith, inl, inr}
use Rattle.std.specs.Prelude.{slice_get}
use Rattle.std.specs.List.{list_any}
use Rattle.std.specs.BTreeMap.{UpdatesBy}
use Rattle.std.specs.Str.{bytes_eq}
use Rattle.std.proofs.lemmas.Bool.{cases_Bool, cond-true, cond-false}
use Rattle.std.proofs.lemmas.List.Sums.{sum_by-cons, count_by-le-length}
use Rattle.std.proofs.lemmas.Slice.Eq.{bytes_eq-Decides}
use Rattle.tac_request.specs.declared.record.AcctKind.{AcctKind}
use Rattle.tac_request.specs.declared.record.AcctKind.TheVariants.{Begin, Stop, Watch, Update}
use Rattle.tac_tally.specs.Book.{Entry}
use Rattle.tac_tally.specs.Tally.{tally_of, is_of, turns, open_tasks, elapsed_of, drifts, IsBelow}
use Rattle.tac_tally.specs.Counting.{HoldsOpen, is_open, drift_of, recounted}
use Rattle.tac_tally.specs.Accounts.{is_by, stands_at, with_mark_at, but_open, Stands, StandsIf, account_of, Run}
use Rattle.tac_tally.specs.declared.tally.Tally.{Tally}
use Rattle.tac_tally.specs.declared.account.Account.{Account}
use Rattle.tac_tally.specs.declared.accounts.Accounts.{Accounts}
use Rattle.tac_tally.proofs.OpenTasks.{one_if}
use Rattle.tac_tally.proofs.Texts.{by_items, at_text, account_of-changed}
use Rattle.tac_tally.proofs.Standing.{stands_found, none_found, found_of}

-- ---- what no mark changes

pub length-with_mark_at : (place : ℕ) (denied : Bool) (xs : List Entry) → length (with_mark_at place denied xs) ≡ length xs
length-with_mark_at place denied [] = refl
length-with_mark_at zero denied (x ∷ xs) = refl
length-with_mark_at (suc place) denied (x ∷ xs) = ap suc (length-with_mark_at place denied xs)

any-kept : (test : Entry → Bool) → ((e : Entry) (b : Bool) → test (record e { denied = b }) ≡ test e)
    → (place : ℕ) (denied : Bool) (xs : List Entry) → list_any test (with_mark_at place denied xs) ≡ list_any test xs
any-kept test kept place denied [] = refl
any-kept test kept zero denied (x ∷ xs) = ap (λ b. b || list_any test xs) (kept x denied)
any-kept test kept (suc place) denied (x ∷ xs) = ap (λ b. test x || b) (any-kept test kept place denied xs)

stands_at-kept : (test : Entry → Bool) → ((e : Entry) (b : Bool) → test (record e { denied = b }) ≡ test e)
    → (place : ℕ) (denied : Bool) (xs : List Entry) (at : ℕ) → stands_at test (with_mark_at place denied xs) at ≡ stands_at test xs at
stands_at-kept test kept place denied [] at = refl
stands_at-kept test kept zero denied (x ∷ xs) zero = kept x denied
stands_at-kept test kept zero denied (x ∷ xs) (suc at) = refl
stands_at-kept test kept (suc place) denied (x ∷ xs) zero = refl
stands_at-kept test kept (suc place) denied (x ∷ xs) (suc at) = stands_at-kept test kept place denied xs at

sum-kept : (f : Entry → ℕ) → ((e : Entry) (b : Bool) → f (record e { denied = b }) ≡ f e)
    → (place : ℕ) (denied : Bool) (xs : List Entry) → sum_by f (with_mark_at place denied xs) ≡ sum_by f xs
sum-kept f kept place denied [] = refl
sum-kept f kept zero denied (x ∷ xs) = sum_by-cons f (record x { denied = denied }) xs ∙ ap (λ n. n + sum_by f xs) (kept x denied) ∙ sym (sum_by-cons f x xs)
sum-kept f kept (suc place) denied (x ∷ xs) =
    sum_by-cons f x (with_mark_at place denied xs) ∙ ap (λ n. f x + n) (sum-kept f kept place denied xs) ∙ sym (sum_by-cons f x xs)

kept_or : (f : Entry → ℕ) (b : Bool) (x : Entry) (rest : List Entry) → sum_by f (cond b (x ∷ rest) rest) ≡ cond b (f x) 0 + sum_by f rest
kept_or f true x rest = sum_by-cons f x rest
kept_or f false x rest = omega arith

sum_filtered : (f : Entry → ℕ) (test : Entry → Bool) (xs : List Entry) → sum_by f (filter test xs) ≡ sum_by (λ e. cond (test e) (f e) 0) xs
sum_filtered f test [] = refl
sum_filtered f test (x ∷ xs) =
    kept_or f (test x) x (filter test xs) ∙ ap (λ n. cond (test x) (f x) 0 + n) (sum_filtered f test xs) ∙ sym (sum_by-cons (λ e. cond (test e) (f e) 0) x xs)

elapsed-kept : (user : List ℕ) (place : ℕ) (denied : Bool) (xs : List Entry) → elapsed_of user (with_mark_at place denied xs) ≡ elapsed_of user xs
elapsed-kept user place denied xs =
    let seconds : Entry → ℕ = λ e. e.item.elapsed in
    sum_filtered seconds (is_of user Stop) (with_mark_at place denied xs)
    ∙ sum-kept (λ e. cond (is_of user Stop e) e.item.elapsed 0) (λ e b. refl) place denied xs
    ∙ sym (sum_filtered seconds (is_of user Stop) xs)

open_tasks-kept : (user : List ℕ) (place : ℕ) (denied : Bool) (xs : List Entry) → open_tasks user (with_mark_at place denied xs) ≡ open_tasks user xs
open_tasks-kept user place denied [] = refl
open_tasks-kept user zero denied (x ∷ xs) = refl
open_tasks-kept user (suc place) denied (x ∷ xs) =
    rw (any-kept (turns user x.item.task) (λ e b. refl) place denied xs, open_tasks-kept user place denied xs) refl

is_open-kept : (user task : List ℕ) (place : ℕ) (denied : Bool) (xs : List Entry) → is_open user task (with_mark_at place denied xs) ≡ is_open user task xs
is_open-kept user task place denied [] = refl
is_open-kept user task zero denied (x ∷ xs) = refl
is_open-kept user task (suc place) denied (x ∷ xs) =
    rw (any-kept (turns user task) (λ e b. refl) place denied xs, is_open-kept user task place denied xs) refl

-- ---- the drift

first_moved : (f : Entry → ℕ) (denied : Bool) (xs : List Entry) (e : Entry) → sum_by f (record e { denied = denied } ∷ xs) + f e ≡ sum_by f (e ∷ xs) + f (record e { denied = denied })
first_moved f denied xs e =
    let now = sum_by-cons f (record e { denied = denied }) xs in
    let was = sum_by-cons f e xs in
    omega (arith, now, was)

-- a sum loses what the entry counted for, and gains what it counts for
pub sum-moved : (f : Entry → ℕ) (place : ℕ) (denied : Bool) (xs : List Entry) (e : Entry) → slice_get xs place ≡ Some e
    → sum_by f (with_mark_at place denied xs) + f e ≡ sum_by f xs + f (record e { denied = denied })
sum-moved f place denied [] e at = cc
sum-moved f zero denied (x ∷ xs) e at =
    let same : x ≡ e = cc in
    subst (λ (y : Entry). sum_by f (record y { denied = denied } ∷ xs) + f e ≡ sum_by f (y ∷ xs) + f (record e { denied = denied })) (sym same) (first_moved f denied xs e)
sum-moved f (suc place) denied (x ∷ xs) e at =
    let rest = sum-moved f place denied xs e at in
    let now = sum_by-cons f x (with_mark_at place denied xs) in
    let was = sum_by-cons f x xs in
    omega (arith, rest, now, was)

-- what an entry counts for is in the sum
pub sum-holds : (f : Entry → ℕ) (place : ℕ) (xs : List Entry) (e : Entry) → slice_get xs place ≡ Some e → f e ≤ sum_by f xs
sum-holds f place [] e at = cc
sum-holds f zero (x ∷ xs) e at =
    let same : x ≡ e = cc in
    let all = sum_by-cons f x xs in
    let own = ap f same in
    omega (arith, all, own)
sum-holds f (suc place) (x ∷ xs) e at =
    let rest = sum-holds f place xs e at in
    let all = sum_by-cons f x xs in
    omega (arith, rest, all)

drifts-own : (e : Entry) → one_if (drifts e.item.user e) ≡ drift_of e.item e.denied
drifts-own e =
    let own : bytes_eq e.item.user e.item.user ≡ true = (bytes_eq-Decides e.item.user e.item.user).1 refl in
    rw own refl

-- ---- the account of the entry's user

drift_moves : (place : ℕ) (denied : Bool) (xs : List Entry) (e : Entry) → slice_get xs place ≡ Some e
    → count_by (drifts e.item.user) (with_mark_at place denied xs) ≡ count_by (drifts e.item.user) xs + drift_of e.item denied - drift_of e.item e.denied
drift_moves place denied xs e at =
    let test = drifts e.item.user in
    let sums = sum-moved (λ x. one_if (test x)) place denied xs e at in
    let was = drifts-own e in
    let is = drifts-own (record e { denied = denied }) in
    omega (arith, sums, was, is)

pub tally-moves : (place : ℕ) (denied : Bool) (xs : List Entry) (e : Entry) → slice_get xs place ≡ Some e
    → but_open (tally_of e.item.user (with_mark_at place denied xs)) ≡ recounted e.item e.denied denied (but_open (tally_of e.item.user xs))
tally-moves place denied xs e at =
    let kinds : (kind : AcctKind) → count_by (is_of e.item.user kind) (with_mark_at place denied xs) ≡ count_by (is_of e.item.user kind) xs =
    λ kind. sum-kept (λ x. one_if (is_of e.item.user kind x)) (λ x b. refl) place denied xs in
    rw (kinds Begin, kinds Stop, kinds Watch, kinds Update, elapsed-kept e.item.user place denied xs, drift_moves place denied xs e at) refl

tasks-kept : (user : List ℕ) (place : ℕ) (denied : Bool) (xs : List Entry) (account : Account) → HoldsOpen user xs account.open_tasks → HoldsOpen user (with_mark_at place denied xs) account.open_tasks
tasks-kept user place denied xs account h = record {
  has = λ task. h.has task ∙ sym (is_open-kept user task place denied xs);
  many = h.many ∙ sym (open_tasks-kept user place denied xs);
}

-- all but the drift is as it was, which is at most one for each entry
below_still : (user : List ℕ) (place : ℕ) (denied : Bool) (xs : List Entry) (before after : Tally) → after ≡ record before { drift = count_by (drifts user) (with_mark_at place denied xs) }
    → IsBelow (length xs * 2 ^ 32 + 1) before → IsBelow (length (with_mark_at place denied xs) * 2 ^ 32 + 1) after
below_still user place denied xs before after is b =
    let most = count_by-le-length (drifts user) (with_mark_at place denied xs) in
    let size = length-with_mark_at place denied xs in
    rw is (record {
      starts = omega (arith, size, b.starts);
      stops = omega (arith, size, b.stops);
      watchdogs = omega (arith, size, b.watchdogs);
      updates = omega (arith, size, b.updates);
      open_tasks = omega (arith, size, b.open_tasks);
      elapsed = omega (arith, size, b.elapsed);
      drift = omega (arith, most);
    })

pub stands-remarked : (place : ℕ) (denied : Bool) (xs : List Entry) (e : Entry) (account after : Account) → slice_get xs place ≡ Some e
    → after ≡ record account { counts = recounted e.item e.denied denied account.counts }
    → Stands e.item.user xs account → Stands e.item.user (with_mark_at place denied xs) after
stands-remarked place denied xs e account after at is s =
    let user = e.item.user in
    let moves : recounted e.item e.denied denied account.counts ≡ but_open (tally_of user (with_mark_at place denied xs)) =
    ap (recounted e.item e.denied denied) s.counts ∙ sym (tally-moves place denied xs e at) in
    let drift : recounted e.item e.denied denied account.counts ≡ record account.counts { drift = count_by (drifts user) (with_mark_at place denied xs) } =
    ap (λ n. record account.counts { drift = n }) (ap (λ t. t.drift) moves) in
    rw is (record {
      counts = moves;
      small = below_still user place denied xs account.counts _ drift s.small;
      tasks = tasks-kept user place denied xs account s.tasks;
      places = λ p. s.places p ∙ sym (stands_at-kept (is_by user) (λ x b. refl) place denied xs p);
    })

-- ---- the account of another user

drift_stays : (user : List ℕ) (place : ℕ) (denied : Bool) (xs : List Entry) (e : Entry) → slice_get xs place ≡ Some e → is_by user e ≡ false
    → count_by (drifts user) (with_mark_at place denied xs) ≡ count_by (drifts user) xs
drift_stays user place denied xs e at other =
    let sums = sum-moved (λ x. one_if (drifts user x)) place denied xs e at in
    let was : one_if (drifts user e) ≡ 0 = rw other refl in
    let is : one_if (drifts user (record e { denied = denied })) ≡ 0 = rw other refl in
    omega (arith, sums, was, is)

tally-stays : (user : List ℕ) (place : ℕ) (denied : Bool) (xs : List Entry) (e : Entry) → slice_get xs place ≡ Some e → is_by user e ≡ false
    → but_open (tally_of user (with_mark_at place denied xs)) ≡ but_open (tally_of user xs)
tally-stays user place denied xs e at other =
    let kinds : (kind : AcctKind) → count_by (is_of user kind) (with_mark_at place denied xs) ≡ count_by (is_of user kind) xs =
    λ kind. sum-kept (λ x. one_if (is_of user kind x)) (λ x b. refl) place denied xs in
    rw (kinds Begin, kinds Stop, kinds Watch, kinds Update, elapsed-kept user place denied xs, drift_stays user place denied xs e at other) refl

others : (user : List ℕ) (place : ℕ) (denied : Bool) (xs : List Entry) (e : Entry) (found : Option Account) → slice_get xs place ≡ Some e → is_by user e ≡ false
    → StandsIf user xs found → StandsIf user (with_mark_at place denied xs) found
others user place denied xs e None at other h = any-kept (is_by user) (λ x b. refl) place denied xs ∙ h
others user place denied xs e (Some account) at other s = record {
  counts = s.counts ∙ sym (tally-stays user place denied xs e at other);
  small = subst (λ n. IsBelow (n * 2 ^ 32 + 1) account.counts) (sym (length-with_mark_at place denied xs)) s.small;
  tasks = tasks-kept user place denied xs account s.tasks;
  places = λ p. s.places p ∙ sym (stands_at-kept (is_by user) (λ x b. refl) place denied xs p);
}

-- ---- the accounts

pub run-remarked : (place : ℕ) (denied : Bool) (xs : List Entry) (e : Entry) (old new : Accounts) (account after : Account) → slice_get xs place ≡ Some e
    → account_of old.by_user e.item.user ≡ Some account → after ≡ record account { counts = recounted e.item e.denied denied account.counts }
    → ((user : List ℕ) → account_of new.by_user user ≡ cond (bytes_eq e.item.user user) (Some after) (account_of old.by_user user))
    → Run xs old → Run (with_mark_at place denied xs) new
run-remarked place denied xs e old new account after at found is changed h user = elim (cases_Bool (bytes_eq e.item.user user)) [
  | inl y ↦
      let same = (bytes_eq-Decides e.item.user user).0 y in
      let here = changed user ∙ cond-true (bytes_eq e.item.user user) (Some after) (account_of old.by_user user) y in
      let s = stands_found e.item.user xs (account_of old.by_user e.item.user) account found (h e.item.user) in
      let t = stands-remarked place denied xs e account after at is s in
      subst (StandsIf user (with_mark_at place denied xs)) (sym here) (subst (λ u. Stands u (with_mark_at place denied xs) after) same t)
  | inr n ↦
      let here = changed user ∙ cond-false (bytes_eq e.item.user user) (Some after) (account_of old.by_user user) n in
      subst (StandsIf user (with_mark_at place denied xs)) (sym here) (others user place denied xs e (account_of old.by_user user) at n (h user))
]

-- the drift has what its mark counts for
pub drift_holds : (place : ℕ) (xs : List Entry) (e : Entry) (account : Account) → slice_get xs place ≡ Some e → Stands e.item.user xs account → drift_of e.item e.denied ≤ account.counts.drift
drift_holds place xs e account at s =
    let sums = sum-holds (λ x. one_if (drifts e.item.user x)) place xs e at in
    let was = drifts-own e in
    let counts = ap (λ t. t.drift) s.counts in
    omega (arith, sums, was, counts)

pub drift_fits : (user : List ℕ) (xs : List Entry) (account : Account) → length xs < 2 ^ 64 → Stands user xs account → account.counts.drift < 2 ^ 127
drift_fits user xs account many s = let below = s.small.drift in omega (arith, many, below)

-- who has no account has no entry, and nothing changes
pub run-missing : (place : ℕ) (denied : Bool) (xs : List Entry) (e : Entry) (old : Accounts) → slice_get xs place ≡ Some e → account_of old.by_user e.item.user ≡ None
    → Run xs old → Run (with_mark_at place denied xs) old
run-missing place denied xs e old at missing h user = elim (cases_Bool (bytes_eq e.item.user user)) [
  | inl y ↦
      let same = (bytes_eq-Decides e.item.user user).0 y in
      let here : account_of old.by_user user ≡ None = ap (account_of old.by_user) (sym same) ∙ missing in
      let none = none_found user xs (account_of old.by_user user) here (h user) in
      subst (StandsIf user (with_mark_at place denied xs)) (sym here) (any-kept (is_by user) (λ x b. refl) place denied xs ∙ none)
  | inr n ↦ others user place denied xs e (account_of old.by_user user) at n (h user)
]

-- a look-up that finds none leaves the accounts, and one that finds one has it written back
pub run-unfound : (place : ℕ) (denied : Bool) (xs : List Entry) (e : Entry) (old new : Accounts) (bytes : List ℕ) → slice_get xs place ≡ Some e → bytes ≡ e.item.user
    → None ≡ account_of old.by_user bytes → new.by_user ≡ old.by_user → Run xs old → Run (with_mark_at place denied xs) new
run-unfound place denied xs e old new bytes at is missing same h user =
    rw same (run-missing place denied xs e old at (found_of old e.item.user bytes None is missing) h user)

pub run-rewritten : (place : ℕ) (denied : Bool) (xs : List Entry) (e : Entry) (old new : Accounts) (bytes : List ℕ) (account : Account) (counts : Tally) → slice_get xs place ≡ Some e → bytes ≡ e.item.user
    → Some account ≡ account_of old.by_user bytes → counts ≡ recounted e.item e.denied denied account.counts
    → UpdatesBy by_items (at_text bytes) old.by_user new.by_user (Some (record account { counts = counts })) → Run xs old → Run (with_mark_at place denied xs) new
run-rewritten place denied xs e old new bytes account counts at is found count updates =
    let after : Account = record account { counts = counts } in
    run-remarked place denied xs e old new account after at (found_of old e.item.user bytes (Some account) is found) (ap (λ n. record account { counts = n }) count)
    (λ user. account_of-changed bytes old.by_user new.by_user (Some after) updates user ∙ ap (λ b. cond (bytes_eq b user) (Some after) (account_of old.by_user user)) is)
