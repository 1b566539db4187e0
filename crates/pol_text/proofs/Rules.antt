-- Rules put in, taken out and moved stay right.
use Rattle.std.proofs.Common.{◌≡◌, ℕ, zero, suc, ◌<◌, ◌≤◌, Bool, true, List, [], ◌∷◌, ◌++◌, length, take, drop, insert, remove, Option, None, Some, refl, ◌∙◌, arith, slice_get, nat_le}
use Rattle.std.specs.Option.{option_map_or}
use Rattle.std.specs.List.{list_all}
use Rattle.std.proofs.lemmas.Bool.{and_parts, and_from, leb-true, le-leb}
use Rattle.std.proofs.lemmas.List.Edits.{length-insert, length-remove}
use Rattle.std.proofs.lemmas.List.Folds.{list_all-append}
use Rattle.std.proofs.lemmas.Option.{slice_get_within}
use Rattle.pol_text.proofs.Keeps.{all_at}
use Rattle.pol_text.specs.Policy.{max_rules}

all_take : {X : Type 0} (test : X → Bool) (n : ℕ) (xs : List X) → list_all test xs ≡ true → list_all test (take n xs) ≡ true
all_take test zero xs all = refl
all_take test (suc n) [] all = refl
all_take test (suc n) (x ∷ xs) all =
    let parts = and_parts (test x) (list_all test xs) all in
    and_from (test x) (list_all test (take n xs)) parts.0 (all_take test n xs parts.1)

all_drop : {X : Type 0} (test : X → Bool) (n : ℕ) (xs : List X) → list_all test xs ≡ true → list_all test (drop n xs) ≡ true
all_drop test zero xs all = all
all_drop test (suc n) [] all = refl
all_drop test (suc n) (x ∷ xs) all = all_drop test n xs ((and_parts (test x) (list_all test xs) all).1)

all_append : {X : Type 0} (test : X → Bool) (xs ys : List X) → list_all test xs ≡ true → list_all test ys ≡ true → list_all test (xs ++ ys) ≡ true
all_append test xs ys a b = list_all-append test xs ys ∙ and_from (list_all test xs) (list_all test ys) a b

pub all_remove : {X : Type 0} (test : X → Bool) (xs : List X) (at : ℕ) → list_all test xs ≡ true → list_all test (remove xs at) ≡ true
all_remove test xs at all = all_append test (take at xs) (drop (suc at) xs) (all_take test at xs all) (all_drop test (suc at) xs all)

pub all_insert : {X : Type 0} (test : X → Bool) (xs : List X) (at : ℕ) (y : X) → list_all test xs ≡ true → test y ≡ true → list_all test (insert xs at y) ≡ true
all_insert test xs at y all here =
    all_append test (take at xs) (y ∷ drop at xs) (all_take test at xs all) (and_from (test y) (list_all test (drop at xs)) here (all_drop test at xs all))

pub few_removed : {X : Type 0} (xs : List X) (at : ℕ) → at < length xs → nat_le (length xs) max_rules ≡ true → nat_le (length (remove xs at)) max_rules ≡ true
few_removed xs at lt few = le-leb (length (remove xs at)) max_rules (omega (arith, length-remove xs at lt, leb-true (length xs) max_rules few))

pub few_inserted : {X : Type 0} (xs : List X) (at : ℕ) (y : X) → at ≤ length xs → length xs < max_rules → nat_le (length (insert xs at y)) max_rules ≡ true
few_inserted xs at y le lt = le-leb (length (insert xs at y)) max_rules (omega (arith, length-insert xs at y le))

-- the move
pub all_moved : {X : Type 0} (test : X → Bool) (xs : List X) (from to : ℕ) → list_all test xs ≡ true → list_all test (option_map_or (insert (remove xs from) to) (slice_get xs from) xs) ≡ true
all_moved {X = X} test xs from to all = by (slice_get xs from) refl
  where
    by : (o : Option X) → slice_get xs from ≡ o → list_all test (option_map_or (insert (remove xs from) to) o xs) ≡ true
    by None e = all
    by (Some y) e = all_insert test (remove xs from) to y (all_remove test xs from all) (all_at test xs from y all e)

pub few_moved : {X : Type 0} (xs : List X) (from to : ℕ) → to < length xs → nat_le (length xs) max_rules ≡ true
    → nat_le (length (option_map_or (insert (remove xs from) to) (slice_get xs from) xs)) max_rules ≡ true
few_moved {X = X} xs from to lt few = by (slice_get xs from) refl
  where
    by : (o : Option X) → slice_get xs from ≡ o → nat_le (length (option_map_or (insert (remove xs from) to) o xs)) max_rules ≡ true
    by None e = few
    by (Some y) e =
        let within : from < length xs = slice_get_within xs from y e in
        let fewer = length-remove xs from within in
        let more = length-insert (remove xs from) to y (omega arith) in
        le-leb (length (insert (remove xs from) to y)) max_rules (omega (arith, leb-true (length xs) max_rules few))
