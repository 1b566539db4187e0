-- What takes lines: what it is once it was to take some.
use Rattle.std.specs.Prelude.{◌≡◌, ◌⊎◌, ℕ, List, Result, Ok, Err}
use Rattle.tac_audit.specs.declared.witness.Refused.{Refused}

-- it took them; or it refused them, or they never came to it, as where there was no memory for them
abbrev pub IsLogged : {S : Type 0} → (S → List ℕ → S → Type 0) → (S → List ℕ → S → Type 0)
    → Result (Unit {0}) Refused → List ℕ → S → S → Type 0
IsLogged takes refuses (Ok done) lines old new = takes old lines new
IsLogged takes refuses (Err refused) lines old new = (new ≡ old) ⊎ refuses old lines new
