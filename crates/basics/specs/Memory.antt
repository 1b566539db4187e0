-- What a call that may run out of memory answers, against what is wanted.
use Rattle.std.specs.Prelude.{◌≡◌, Bool, true, false, Result, Ok, Err}

-- the fact holds, except in this case
abbrev pub Except : Bool → Type 0 → Type 0
Except true fact = Unit {0}
Except false fact = fact

-- the answer is the wanted one, unless memory ran out: the fault that says so, which
-- is_memory tells, may stand in place of any answer. A view shows what contracts see of a
-- value
abbrev pub GivesUnlessMemory : {X Y E : Type 0} → (E → Bool) → (X → Y) → Result X E → Result Y E
    → Type 0
GivesUnlessMemory is_memory view (Ok value) wanted = wanted ≡ Ok (view value)
GivesUnlessMemory is_memory view (Err fault) wanted = Except (is_memory fault) (wanted ≡ Err fault)
