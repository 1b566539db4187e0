-- Which key the bytes show that came on a connection so far: its first packet does, once it is
-- whole (RFC 8907, section 4.1, for the lengths of packets).
use Rattle.std.specs.Prelude.{◌≡◌, ℕ, List, ◌++◌, is_some, Option, Some, None, if◌then◌else◌}
use Rattle.tac_wire.specs.Stream.{Item, whole, refused, unfinished, first_item}
use Rattle.tac_wire.specs.declared.door.Door.TheVariants.{Padded}
use Rattle.tac_first.specs.Choice.{chosen}
use Rattle.tac_first.specs.declared.keys.Keys.{Keys}
use Rattle.tac_first.specs.declared.keys.Shown.{Shown}
use Rattle.tac_first.specs.declared.keys.Shown.TheVariants.{Present}

-- what the bytes begin with. Which key they are under matters to no item
abbrev pub first_under : Keys → List ℕ → Item
first_under keys bytes = first_item (Padded keys.present) bytes

-- what is shown by the item that the bytes begin with. After a header that is refused no packet
-- comes, so no other key is
abbrev pub shown_by_item : Keys → Item → Option Shown
shown_by_item keys (whole frame rest) = Some (chosen keys frame)
shown_by_item keys (refused header) = Some Present
shown_by_item keys unfinished = None

-- the same by the bytes; without an old key none is waited for
abbrev pub shown_so_far : Keys → List ℕ → Option Shown
shown_so_far keys bytes =
    if is_some keys.old then shown_by_item keys (first_under keys bytes) else Some Present

-- what is shown stays, whatever comes after
abbrev pub Stays : Keys → Type 0
Stays keys =
    (bytes more : List ℕ) (shown : Shown) → shown_so_far keys bytes ≡ Some shown
    → shown_so_far keys (bytes ++ more) ≡ Some shown
