-- What no column leads out of.
use Rattle.std.proofs.Common.{◌≡◌, ◌↔◌, ◌⊎◌, ◌<◌, ◌≤◌, ◌+◌, ℕ, Bool, false, IsTrue, List, [], ◌∷◌, ◌++◌, length, refl, subst, sym, inl, inr, arith}
use Rattle.std.specs.List.{fold, slice_index_or}
use Rattle.std.proofs.lemmas.Bool.{cases_lt}
use Rattle.std.proofs.lemmas.List.{get_or_append_left, get_or_push}
use Rattle.std.proofs.lemmas.List.Elements.{All-head, All-tail}
use Rattle.pol_scan.specs.Words.{IsWord}
use Rattle.pol_scan.specs.Table.{Table, next, IsTrap}

-- a word leads back to the state
pub stays : (table : Table) (state : ℕ) → IsTrap table state → (word : List ℕ) → IsWord table.width word → fold (next table) state word ≡ state
stays table state trap [] within = refl
stays table state trap (column ∷ word) within =
    subst (λ k. fold (next table) k word ≡ state) (sym (trap column (All-head (λ c. c < table.width) column word within)))
    (stays table state trap word (All-tail (λ c. c < table.width) column word within))

-- each mark says what it should, once one more does
pub mark_push : (P : ℕ → Type 0) (marks : List Bool) (mark : Bool) → ((k : ℕ) → k < length marks → IsTrue (slice_index_or marks k false) ↔ P k) → IsTrue mark ↔ P (length marks)
    → (k : ℕ) → k < length marks + 1 → IsTrue (slice_index_or (marks ++ mark ∷ []) k false) ↔ P k
mark_push P marks mark known new k lt = by (cases_lt k (length marks))
  where
    by : (k < length marks) ⊎ (length marks ≤ k) → IsTrue (slice_index_or (marks ++ mark ∷ []) k false) ↔ P k
    by (inl h) = rw (get_or_append_left marks (mark ∷ []) false k h) (known k h)
    by (inr h) =
        let last : length marks ≡ k = omega (arith, h, lt) in
        rw (get_or_push marks mark false k last) (subst (λ n. IsTrue mark ↔ P n) last new)
