-- One step of the scan: the derivatives of residuals by a symbol, and what of them counts.
use Rattle.std.specs.Prelude.{◌≡◌, ◌↔◌, ◌<◌, ◌⊎◌, ◌||◌, nat_lt, Bool, ℕ, List, length, All}
use Rattle.std.specs.Prelude.{Contains}
use Rattle.pol_pattern.specs.Flat.{Term}
use Rattle.pol_residual.specs.Derivative.{Derivative, Derivatives}
use Rattle.pol_deriv.specs.Table.{Means}
use Rattle.pol_automaton.specs.declared.entry_term.EntryTerm.{EntryTerm}
use Rattle.pol_residual.specs.Residuals.{any_text}
use Rattle.pol_automaton.specs.Scanning.{HasTerm}
use Rattle.pol_automaton.specs.Cutting.{Counts, IsSureOrNot}
use Rattle.pol_automaton.specs.Order.{same_item}

-- each number is one of the table
abbrev pub AreWithin : List Term → List EntryTerm → Type 0
AreWithin table items = All (λ item. item.term < length table) items

-- the items are the derivatives by the symbol of the items that another table has
pub record AreDerivatives (old new : List Term) (symbol : ℕ)
    (items derived : List EntryTerm) : Type 0 where
  pub within : AreWithin new derived
  pub members : (entry : ℕ) (term : Term)
      → HasTerm new derived entry term ↔ Derivatives symbol (HasTerm old items entry) term

-- the items of one more item's derivatives
pub record AddsDerivatives (old new : List Term) (symbol : ℕ) (item : EntryTerm)
    (before after : List EntryTerm) : Type 0 where
  pub within : AreWithin new after
  pub members : (own : Term) → Means old item.term own → (entry : ℕ) (term : Term)
      → HasTerm new after entry term
      ↔ (HasTerm old before entry term ⊎ ((entry ≡ item.entry) × Derivative symbol own term))

-- ---- what counts

-- the items are those of the others that count, and which entry is sure is known
pub record AreCut (table : List Term) (items cut : List EntryTerm) : Type 0 where
  pub members : (entry : ℕ) (term : Term)
      → HasTerm table cut entry term ↔ Counts (HasTerm table items) entry term
  pub decided : (entry : ℕ) → IsSureOrNot (HasTerm table cut) entry

-- the item is `.*`, and no entry before its own has that
pub record IsFirstSure (table : List Term) (items : List EntryTerm)
    (item : EntryTerm) : Type 0 where
  pub there : Contains items item
  pub means : Means table item.term any_text
  pub none : (k : ℕ) → k < item.entry → ¬ (HasTerm table items k any_text)

-- an item of an entry before, or the sure one
abbrev pub is_up_to : EntryTerm → EntryTerm → Bool
is_up_to sure item = nat_lt item.entry sure.entry || same_item item sure
