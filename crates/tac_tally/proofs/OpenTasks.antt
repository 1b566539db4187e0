-- The tasks of a user that are open, one more entry on.
use Rattle.std.proofs.Common.{◌≡◌, ℕ, ◌+◌, Bool, true, false, not, ◌&&◌, ◌||◌, cond, List, [], ◌∷◌, ◌++◌, refl, sym, ap, arith}
use Rattle.std.specs.List.{list_any}
use Rattle.std.specs.Str.{bytes_eq}
use Rattle.std.proofs.lemmas.List.Folds.{list_any-append}
use Rattle.std.proofs.lemmas.Slice.Eq.{bytes_eq-Decides}
use Rattle.tac_request.specs.declared.record.AcctKind.TheVariants.{Begin, Stop}
use Rattle.tac_tally.specs.Book.{Entry}
use Rattle.tac_tally.specs.Tally.{is_of, turns, open_tasks}
use Rattle.tac_tally.proofs.Texts.{bytes_eq_comm}
use Rattle.tac_tally.specs.Counting.{is_open}

-- 1 where the test holds
abbrev pub one_if : Bool → ℕ
one_if test = cond test 1 0

-- the entry begins or stops a task of the user
abbrev pub is_turn : List ℕ → Entry → Bool
is_turn user entry = is_of user Begin entry || is_of user Stop entry

first_open : (begins stops same : Bool) → ((begins && same && not false) || false) ≡ cond ((begins || stops) && same) begins false
first_open true true true = refl
first_open true true false = refl
first_open true false true = refl
first_open true false false = refl
first_open false true true = refl
first_open false true false = refl
first_open false false true = refl
first_open false false false = refl

next_open : (begins same later last is before : Bool)
    → ((begins && same && not (later || (last || false))) || cond last is before) ≡ cond last is ((begins && same && not later) || before)
next_open true true true true is before = refl
next_open true true false true is before = refl
next_open true false true true is before = refl
next_open true false false true is before = refl
next_open false true true true is before = refl
next_open false true false true is before = refl
next_open false false true true is before = refl
next_open false false false true is before = refl
next_open true true true false is before = refl
next_open true true false false is before = refl
next_open true false true false is before = refl
next_open true false false false is before = refl
next_open false true true false is before = refl
next_open false true false false is before = refl
next_open false false true false is before = refl
next_open false false false false is before = refl

-- an entry that begins or stops the task settles whether it is open
pub is_open-push : (user task : List ℕ) (xs : List Entry) (e : Entry)
    → is_open user task (xs ++ e ∷ []) ≡ cond (turns user task e) (is_of user Begin e) (is_open user task xs)
is_open-push user task [] e = first_open (is_of user Begin e) (is_of user Stop e) (bytes_eq e.item.task task)
is_open-push user task (x ∷ xs) e =
    rw (is_open-push user task xs e, list_any-append (turns user task) xs (e ∷ []))
    (next_open (is_of user Begin x) (bytes_eq x.item.task task) (list_any (turns user task) xs) (turns user task e) (is_of user Begin e) (is_open user task xs))

-- an open task has begun
pub is_open-turned : (user task : List ℕ) (xs : List Entry) → is_open user task xs ≡ true → list_any (turns user task) xs ≡ true
is_open-turned user task [] o = o
is_open-turned user task (x ∷ xs) o = grind (arith, is_open-turned user task xs)

-- where a later entry turns x's task, and where it is the last, e
step : (begins later same turn later_e before : Bool) (n n' m : ℕ) → (same ≡ true → later_e ≡ later) → (before ≡ true → later_e ≡ true)
    → n' + one_if (turn && before) ≡ n + m
    → one_if (begins && not (later || ((turn && same) || false))) + n' + one_if (turn && ((begins && same && not later_e) || before)) ≡ one_if (begins && not later) + n + m
step false later same turn later_e before n n' m s b h = omega (arith, h)
step true later same false later_e before n n' m s b h = grind (arith, h)
step true later false true later_e before n n' m s b h = grind (arith, h)
step true later true true later_e true n n' m s b h = grind (arith, h, s refl, b refl)
step true later true true later_e false n n' m s b h = grind (arith, h, s refl)

start : (begins turn : Bool) → one_if (begins && true) + 0 + one_if (turn && false) ≡ 0 + one_if begins
start true true = omega arith
start true false = omega arith
start false true = omega arith
start false false = omega arith

-- the open tasks are one more where a task begins, and one less where it was open before
pub open_tasks-push : (user : List ℕ) (xs : List Entry) (e : Entry)
    → open_tasks user (xs ++ e ∷ []) + one_if (is_turn user e && is_open user e.item.task xs) ≡ open_tasks user xs + one_if (is_of user Begin e)
open_tasks-push user [] e = start (is_of user Begin e) (is_turn user e)
open_tasks-push user (x ∷ xs) e =
    let same = bytes_eq-Decides x.item.task e.item.task in
    rw (list_any-append (turns user x.item.task) xs (e ∷ []), bytes_eq_comm e.item.task x.item.task)
    (step (is_of user Begin x) (list_any (turns user x.item.task) xs) (bytes_eq x.item.task e.item.task) (is_turn user e) (list_any (turns user e.item.task) xs)
    (is_open user e.item.task xs) _ _ _ (λ eq. ap (λ t. list_any (turns user t) xs) (sym (same.0 eq))) (is_open-turned user e.item.task xs) (open_tasks-push user xs e))
