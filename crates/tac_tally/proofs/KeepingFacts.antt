-- Where there is room for one more record, and a number.
use Rattle.std.proofs.Common.{◌≡◌, ◌≢◌, ℕ, ◌+◌, ◌≤◌, ◌<◌, ◌==◌, ◌&&◌, true, false, List, [], ◌∷◌, ◌++◌, length, drop, refl, sym, ◌∙◌, arith, inl, inr}
use Rattle.std.proofs.lemmas.Bool.{cases_Bool, or_parts, and_from, false_from_ne_true, false≢true}
use Rattle.std.proofs.lemmas.Bool.Decides.{nat_tests}
use Rattle.tac_tally.specs.Book.{Entry, Contents}
use Rattle.tac_tally.specs.Keeping.{gone_at, goes, last_number, is_full, kept}
use Rattle.tac_tally.specs.declared.limit.AtLimit.{AtLimit}
use Rattle.tac_tally.specs.declared.limit.AtLimit.TheVariants.{Refuse, Forget}
use Rattle.tac_tally.specs.declared.limit.RecordLimit.{RecordLimit}

same_test : (m n : ℕ) → m ≡ n → (m == n) ≡ true
same_test m n same = grind (arith, nat_tests)

other_test : (m n : ℕ) → (m == n) ≡ false → m ≢ n
other_test m n other = grind (arith, nat_tests)

gone_within : (at : AtLimit) (most : ℕ) → gone_at at most ≤ most
gone_within Refuse most = omega arith
gone_within Forget most = omega arith

-- no more go than there are
pub goes_within : (limit : RecordLimit) (many : ℕ) → goes limit many ≤ many
goes_within limit many = elim (cases_Bool (many == limit.most)) [
  | inl same ↦ let most : many ≡ limit.most = grind (arith, nat_tests) in rw same (omega (arith, most, gone_within limit.at_limit limit.most))
  | inr other ↦ rw other (omega arith)
]

module _ (limit : RecordLimit) (forgotten many : ℕ) (not_full : is_full limit forgotten many ≡ true → ⊥) where
  parts : ((many == limit.most && goes limit many == 0) ≡ false) × ((forgotten + many == last_number) ≡ false)
  parts = or_parts _ _ (false_from_ne_true _ not_full)

  -- none goes only below the limit
  pub has_room : goes limit many ≡ 0 → many ≤ limit.most → many < limit.most
  has_room none within = elim (cases_Bool (many == limit.most)) [
    | inl same ↦ absurd (false≢true (sym parts.0 ∙ and_from _ _ same (same_test _ _ none)))
    | inr other ↦ let below : many ≢ limit.most = other_test _ _ other in omega (arith, within, below)
  ]

  pub has_number : forgotten + many ≤ last_number → forgotten + many < last_number
  has_number within = let below : (forgotten + many) ≢ last_number = other_test _ _ parts.1 in omega (arith, within, below)

-- what is stored where none goes, and where so many go
module _ (limit : RecordLimit) (forgotten : ℕ) (entries : List Entry) (entry : Entry) (new : List Entry) where
  pub stored_all : goes limit (length entries) ≡ 0 → new ≡ entries ++ entry ∷ []
      → ◌≡◌ {A = Contents} (record { entries = new; limit = limit; forgotten = forgotten }) (record {
        entries = kept limit entries entry;
        limit = limit;
        forgotten = forgotten + goes limit (length entries);
      })
  stored_all stay is =
      let same : forgotten + 0 ≡ forgotten = omega arith in
      rw (stay, is, same) refl

  pub stored_after : (gone : ℕ) → gone ≡ goes limit (length entries) → new ≡ drop gone entries ++ entry ∷ []
      → ◌≡◌ {A = Contents} (record { entries = new; limit = limit; forgotten = forgotten + gone }) (record {
        entries = kept limit entries entry;
        limit = limit;
        forgotten = forgotten + goes limit (length entries);
      })
  stored_after gone go is = rw (← go, is) refl
