-- A key that is kept as the door that it gives.
use Rattle.std.specs.Prelude.{ℕ, List, []}
use Rattle.tac_wire.specs.declared.door.Door.{Door}
use Rattle.tac_wire.specs.declared.door.Door.TheVariants.{Padded, Clear}

-- the key of the pad
abbrev pub key_in : Door → List ℕ
key_in (Padded key) = key
key_in Clear = []

-- there is a pad
abbrev pub HasPad : Door → Type 0
HasPad (Padded key) = Unit {0}
HasPad Clear = ⊥
