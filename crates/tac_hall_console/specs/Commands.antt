-- The lines that come at the console of a hall.
use Rattle.std.specs.Prelude.{ℕ, List, [], ◌∷◌, ◌==◌, codes, Bool, false, ◌||◌, if◌then◌else◌}
use Rattle.std.specs.Str.{bytes_eq}

-- a byte put before the first line, if there is one
abbrev pub onto_ended : ℕ → List (List ℕ) → List (List ℕ)
onto_ended byte [] = []
onto_ended byte (line ∷ lines) = (byte ∷ line) ∷ lines

-- the lines of these bytes that end in LF: whatever follows, they stay
abbrev pub ended_lines : List ℕ → List (List ℕ)
ended_lines [] = []
ended_lines (byte ∷ bytes) =
    if byte == 10 then [] ∷ ended_lines bytes else onto_ended byte (ended_lines bytes)

abbrev pub is_quit : List ℕ → Bool
is_quit line = bytes_eq line (codes "quit")

abbrev pub is_rotate : List ℕ → Bool
is_rotate line = bytes_eq line (codes "rotate")

abbrev pub is_reload : List ℕ → Bool
is_reload line = bytes_eq line (codes "reload")

abbrev pub is_reload_devices : List ℕ → Bool
is_reload_devices line = bytes_eq line (codes "reload devices")

-- the lines before the first `quit`
abbrev pub commands : List (List ℕ) → List (List ℕ)
commands [] = []
commands (line ∷ lines) = if is_quit line then [] else line ∷ commands lines

-- whether a line is `quit`
abbrev pub quits : List (List ℕ) → Bool
quits [] = false
quits (line ∷ lines) = is_quit line || quits lines
