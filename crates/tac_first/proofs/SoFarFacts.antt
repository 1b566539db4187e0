-- What is shown stays, whatever comes after.
use Rattle.std.proofs.Common.{◌≡◌, ℕ, Bool, true, false, cond, List, ◌++◌, is_some, Some, refl, ap, ◌∙◌}
use Rattle.tac_wire.specs.Stream.{Item, whole, refused, unfinished}
use Rattle.tac_wire.specs.declared.door.Door.TheVariants.{Padded}
use Rattle.tac_wire.proofs.StreamFacts.{first_item-append_whole, first_item-append_refused}
use Rattle.tac_first.specs.SoFar.{first_under, shown_by_item, Stays}
use Rattle.tac_first.specs.declared.keys.Keys.{Keys}
use Rattle.tac_first.specs.declared.keys.Shown.{Shown}
use Rattle.tac_first.specs.declared.keys.Shown.TheVariants.{Present}

item_stays : (keys : Keys) (bytes more : List ℕ) (shown : Shown) (item : Item) → first_under keys bytes ≡ item → shown_by_item keys item ≡ Some shown
    → shown_by_item keys (first_under keys (bytes ++ more)) ≡ Some shown
item_stays keys bytes more shown (whole frame rest) is e = ap (shown_by_item keys) (first_item-append_whole (Padded keys.present) bytes more frame rest is) ∙ e
item_stays keys bytes more shown (refused header) is e = ap (shown_by_item keys) (first_item-append_refused (Padded keys.present) bytes more header is) ∙ e
item_stays keys bytes more shown unfinished is e = cc

stays_by : (keys : Keys) (bytes more : List ℕ) (shown : Shown) (two : Bool) → cond two (shown_by_item keys (first_under keys bytes)) (Some Present) ≡ Some shown
    → cond two (shown_by_item keys (first_under keys (bytes ++ more))) (Some Present) ≡ Some shown
stays_by keys bytes more shown true e = item_stays keys bytes more shown (first_under keys bytes) refl e
stays_by keys bytes more shown false e = e

pub stays : (keys : Keys) → Stays keys
stays keys = λ bytes more shown e. stays_by keys bytes more shown (is_some keys.old) e
