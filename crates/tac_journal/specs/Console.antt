-- What the log of a console is once a line was told with its answer, or was refused.
use Rattle.std.specs.Prelude.{◌≡◌, ◌⊎◌, ℕ, List}
use Rattle.tac_audit.specs.declared.notice.Typing.{Typing}
use Rattle.tac_audit.specs.declared.event.Typist.{Typist}
use Rattle.tac_audit.specs.Event.{typed_line}
use Rattle.tac_audit.specs.Masking.{typed_of}

-- the line that is written of it at this time, where this one typed it
abbrev pub line_typed : List ℕ → Typist → Typing → List ℕ
line_typed time typist typing = typed_line (typed_of time typist typing.line typing.answer)

-- the log took that, at some time, where one typed it who may be named
abbrev pub IsTyped : {S : Type 0} → (S → List ℕ → S → Type 0) → (Typist → Type 0) → Typing
    → S → S → Type 0
IsTyped takes names typing old new =
    (time : List ℕ) × (typist : Typist) × names typist
    × takes old (line_typed time typist typing) new

-- it refused that, or it never came to it
abbrev pub IsUntyped : {S : Type 0} → (S → List ℕ → S → Type 0) → (Typist → Type 0) → Typing
    → S → S → Type 0
IsUntyped refuses names typing old new =
    (new ≡ old)
    ⊎ ((time : List ℕ) × (typist : Typist) × names typist
    × refuses old (line_typed time typist typing) new)
