-- The set of open tasks, one more entry on.
use Rattle.std.proofs.Common.{◌≡◌, ℕ, ◌+◌, Bool, true, false, not, ◌&&◌, cond, List, [], ◌∷◌, ◌++◌, refl, sym, ap, ◌∙◌, arith, add-zero, ◌⊎◌, inl, inr}
use Rattle.std.specs.Global.{Vec}
use Rattle.std.specs.BTreeSet.{BTreeSet, contains_by, UpdatesBy, btree_set_len}
use Rattle.std.proofs.lemmas.Slice.Eq.{bytes_eq-Decides}
use Rattle.tac_request.specs.declared.record.AcctKind.{AcctKind}
use Rattle.tac_request.specs.declared.record.AcctKind.TheVariants.{Begin, Stop, Watch, Update}
use Rattle.tac_request.specs.declared.record.Record.{Record}
use Rattle.tac_tally.specs.Book.{Entry}
use Rattle.tac_tally.specs.Tally.{same_acct, is_of}
use Rattle.tac_tally.specs.Counting.{has_text, HoldsOpen}
use Rattle.tac_tally.proofs.Texts.{by_items, at_text, has_text-changed}
use Rattle.tac_tally.proofs.OpenTasks.{one_if, is_turn, is_open-push, open_tasks-push}

-- an entry that begins or stops a task puts the task in or takes it out
pub holds-turn : (user : List ℕ) (xs : List Entry) (e : Entry) (begins : Bool) (key : List ℕ) (old new : BTreeSet (Vec ℕ))
    → is_turn user e ≡ true → is_of user Begin e ≡ begins → key ≡ e.item.task → UpdatesBy by_items (at_text key) old new begins
    → btree_set_len new + one_if (has_text old e.item.task) ≡ btree_set_len old + one_if begins
    → HoldsOpen user xs old → HoldsOpen user (xs ++ e ∷ []) new
holds-turn user xs e begins key old new turn is at u len h = record {
  has = λ task. has_text-changed key old new begins u task ∙ rw (is_open-push user task xs e, turn, is, at, h.has task) refl;
  many =
      let pushed = rw (turn, is, ← h.has e.item.task) at (open_tasks-push user xs e) in
      omega (arith, len, h.many, pushed);
}

still : (turn same begins before : Bool) → turn ≡ false → before ≡ cond (turn && same) begins before
still turn same begins before none = rw none refl

-- any other entry leaves the open tasks as they are
pub holds-other : (user : List ℕ) (xs : List Entry) (e : Entry) (set : BTreeSet (Vec ℕ)) → is_turn user e ≡ false → is_of user Begin e ≡ false
    → HoldsOpen user xs set → HoldsOpen user (xs ++ e ∷ []) set
holds-other user xs e set none not_begin h = record {
  has = λ task. h.has task ∙ still _ _ _ _ none ∙ sym (is_open-push user task xs e);
  many =
      let pushed = rw (none, not_begin) at (open_tasks-push user xs e) in
      omega (arith, h.many, pushed);
}

-- ---- by the kind of a record, whose own user this is

is_of-own : (item : Record) (denied : Bool) (kind : AcctKind) → is_of item.user kind (record { item = item; denied = denied }) ≡ same_acct item.kind kind
is_of-own item denied kind = ap (λ b. b && same_acct item.kind kind) ((bytes_eq-Decides item.user item.user).1 refl)

taken : (has : Bool) (m n : ℕ) → n ≡ m + one_if (not has) → n + one_if has ≡ m + 1
taken true m n h = omega (arith, h)
taken false m n h = omega (arith, h)

pub turn-begin : (item : Record) (denied : Bool) (xs : List Entry) (key : List ℕ) (old new : BTreeSet (Vec ℕ)) (added : Bool)
    → item.kind ≡ Begin → key ≡ item.task → added ≡ not (contains_by (at_text key) old) → UpdatesBy by_items (at_text key) old new true
    → btree_set_len new ≡ btree_set_len old + one_if added
    → HoldsOpen item.user xs old → HoldsOpen item.user (xs ++ record { item = item; denied = denied } ∷ []) new
turn-begin item denied xs key old new added is at new_key u len h =
    let begins = is_of-own item denied Begin ∙ ap (λ k. same_acct k Begin) is in
    let added_is : added ≡ not (has_text old item.task) = new_key ∙ ap (λ t. not (has_text old t)) at in
    holds-turn item.user xs _ true key old new (rw begins refl) begins at u (taken _ _ _ (len ∙ ap (λ b. btree_set_len old + one_if b) added_is)) h

pub turn-stop : (item : Record) (denied : Bool) (xs : List Entry) (key : List ℕ) (old new : BTreeSet (Vec ℕ)) (had : Bool)
    → item.kind ≡ Stop → key ≡ item.task → had ≡ contains_by (at_text key) old → UpdatesBy by_items (at_text key) old new false
    → btree_set_len new + one_if had ≡ btree_set_len old
    → HoldsOpen item.user xs old → HoldsOpen item.user (xs ++ record { item = item; denied = denied } ∷ []) new
turn-stop item denied xs key old new had is at had_key u len h =
    let begins = is_of-own item denied Begin ∙ ap (λ k. same_acct k Begin) is in
    let stops = is_of-own item denied Stop ∙ ap (λ k. same_acct k Stop) is in
    let had_is : had ≡ has_text old item.task = had_key ∙ ap (λ t. has_text old t) at in
    holds-turn item.user xs _ false key old new (rw (begins, stops) refl) begins at u (ap (λ b. btree_set_len new + one_if b) (sym had_is) ∙ len ∙ sym (add-zero _)) h

pub turn-other : (item : Record) (denied : Bool) (xs : List Entry) (set : BTreeSet (Vec ℕ)) → (item.kind ≡ Watch) ⊎ (item.kind ≡ Update)
    → HoldsOpen item.user xs set → HoldsOpen item.user (xs ++ record { item = item; denied = denied } ∷ []) set
turn-other item denied xs set is h =
    let begins : same_acct item.kind Begin ≡ false = elim is [ inl w ↦ rw w refl | inr u ↦ rw u refl ] in
    let stops : same_acct item.kind Stop ≡ false = elim is [ inl w ↦ rw w refl | inr u ↦ rw u refl ] in
    let is_begin = is_of-own item denied Begin ∙ begins in
    let is_stop = is_of-own item denied Stop ∙ stops in
    holds-other item.user xs _ set (rw (is_begin, is_stop) refl) is_begin h
