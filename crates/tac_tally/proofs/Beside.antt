-- Records, and beside each its mark.
use Rattle.std.proofs.Common.{◌≡◌, ℕ, zero, suc, ◌<◌, Bool, List, [], ◌∷◌, ◌++◌, length, take, drop, set, get_or, Some, refl, sym, ap, arith, ◌+◌, ◌-◌, ◌∙◌}
use Rattle.std.specs.Prelude.{slice_get}
use Rattle.std.proofs.lemmas.List.{take_more, length-take-le, length-drop}
use Rattle.tac_request.specs.declared.record.Record.{Record}
use Rattle.tac_tally.specs.Book.{items, beside}
use Rattle.tac_tally.specs.Accounts.{with_mark_at}

-- there are as many entries as records
pub length-beside : (rs : List Record) (ms : List Bool) → length ms ≡ length rs → length (beside rs ms) ≡ length rs
length-beside [] ms same = refl
length-beside (r ∷ rs) [] same = absurd (omega arith)
length-beside (r ∷ rs) (m ∷ ms) same = ap suc (length-beside rs ms (omega arith))

-- the entries' records are the records
pub items-beside : (rs : List Record) (ms : List Bool) → length ms ≡ length rs → items (beside rs ms) ≡ rs
items-beside [] ms same = refl
items-beside (r ∷ rs) [] same = absurd (omega arith)
items-beside (r ∷ rs) (m ∷ ms) same = ap (λ l. r ∷ l) (items-beside rs ms (omega arith))

-- one more record and its mark are one more entry
pub beside-push : (rs : List Record) (ms : List Bool) (r : Record) (m : Bool) → length ms ≡ length rs
    → beside (rs ++ r ∷ []) (ms ++ m ∷ []) ≡ beside rs ms ++ record { item = r; denied = m } ∷ []
beside-push [] [] r m same = refl
beside-push [] (n ∷ ms) r m same = absurd (omega arith)
beside-push (q ∷ rs) [] r m same = absurd (omega arith)
beside-push (q ∷ rs) (n ∷ ms) r m same = ap (λ l. record { item = q; denied = n } ∷ l) (beside-push rs ms r m (omega arith))

-- another mark at a place
pub beside-set : (rs : List Record) (ms : List Bool) (place : ℕ) (denied : Bool) → beside rs (set ms place denied) ≡ with_mark_at place denied (beside rs ms)
beside-set [] ms place denied = refl
beside-set (r ∷ rs) [] place denied = refl
beside-set (r ∷ rs) (m ∷ ms) zero denied = refl
beside-set (r ∷ rs) (m ∷ ms) (suc place) denied = ap (λ l. record { item = r; denied = m } ∷ l) (beside-set rs ms place denied)

-- the entry at a place
pub beside_at : (rs : List Record) (ms : List Bool) (place : ℕ) (r d : Record) (m c : Bool) → place < length rs → length ms ≡ length rs → r ≡ get_or rs place d → m ≡ get_or ms place c
    → slice_get (beside rs ms) place ≡ Some (record { item = r; denied = m })
beside_at [] ms place r d m c lt same is marks = absurd (omega arith)
beside_at (q ∷ rs) [] place r d m c lt same is marks = absurd (omega arith)
beside_at (q ∷ rs) (n ∷ ms) zero r d m c lt same is marks = rw (is, marks) refl
beside_at (q ∷ rs) (n ∷ ms) (suc place) r d m c lt same is marks = beside_at rs ms place r d m c (omega arith) (omega arith) is marks

-- one entry more of the first ones
pub beside-take : (rs : List Record) (ms : List Bool) (i : ℕ) (r d : Record) (m c : Bool) → i < length rs → length ms ≡ length rs → r ≡ get_or rs i d → m ≡ get_or ms i c
    → beside (take (i + 1) rs) (take (i + 1) ms) ≡ beside (take i rs) (take i ms) ++ record { item = r; denied = m } ∷ []
beside-take rs ms i r d m c lt same is marks =
    rw (take_more rs i d lt, take_more ms i c (omega (arith, lt, same)), is, marks)
    (beside-push (take i rs) (take i ms) (get_or rs i d) (get_or ms i c) (length-take-le i ms (omega (arith, lt, same)) ∙ sym (length-take-le i rs (omega (arith, lt)))))

beside-none : (rs : List Record) → beside rs [] ≡ []
beside-none [] = refl
beside-none (r ∷ rs) = refl

-- those after so many
pub beside-drop : (n : ℕ) (rs : List Record) (ms : List Bool) → beside (drop n rs) (drop n ms) ≡ drop n (beside rs ms)
beside-drop zero rs ms = refl
beside-drop (suc n) [] ms = refl
beside-drop (suc n) (r ∷ rs) [] = beside-none (drop n rs)
beside-drop (suc n) (r ∷ rs) (m ∷ ms) = beside-drop n rs ms

-- as many marks as records are left
pub length-left : (n : ℕ) (rs : List Record) (ms : List Bool) → length ms ≡ length rs → length (drop n ms) ≡ length (drop n rs)
length-left n rs ms same = length-drop n ms ∙ ap (λ m. m - n) same ∙ sym (length-drop n rs)
