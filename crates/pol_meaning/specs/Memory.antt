-- Answers that hold unless memory ran out.
use Rattle.std.specs.Prelude.{Bool, Result, Ok, Err}
use Rattle.basics.specs.Memory.{Except}

-- the fact holds, unless memory ran out
abbrev pub UnlessMemory : {X E : Type 0} → (E → Bool) → Result X E → Type 0 → Type 0
UnlessMemory is_memory (Ok value) fact = fact
UnlessMemory is_memory (Err fault) fact = Except (is_memory fault) fact
