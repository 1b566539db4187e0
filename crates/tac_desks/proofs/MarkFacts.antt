-- Marks that are worked out anew leave the records.
use Rattle.std.proofs.Common.{◌≡◌, ℕ, Bool, List, [], ◌∷◌, refl, ap}
use Rattle.tac_request.specs.declared.record.Record.{Record}
use Rattle.tac_tally.specs.Book.{items}
use Rattle.tac_tally.specs.Recount.{marked}

pub items-marked : (denies : List ℕ → List ℕ → Bool) (records : List Record) → items (marked denies records) ≡ records
items-marked denies [] = refl
items-marked denies (item ∷ rest) = ap (λ l. item ∷ l) (items-marked denies rest)
