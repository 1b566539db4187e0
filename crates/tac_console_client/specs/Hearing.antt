-- What an answer says of the line that it answers: whether that was obeyed (docs/CONSOLE.md).
use Rattle.std.specs.Prelude.{◌≡◌, ℕ, List, [], ◌∷◌, ◌++◌, drop, codes, nat_eq, nat_le, Bool, true}
use Rattle.std.specs.Prelude.{false, ◌&&◌, ◌||◌, if◌then◌else◌}
use Rattle.std.specs.List.{starts_with}
use Rattle.std.specs.Str.{bytes_eq}
use Rattle.tac_console_client.specs.declared.heard.Heard.{Heard}
use Rattle.tac_console_client.specs.declared.heard.Heard.TheVariants.{Well, Unkept, Refused}
use Rattle.tac_console_client.specs.declared.heard.Listening.{Listening}

-- ---- one line of an answer

abbrev pub begins : List ℕ → List ℕ → Bool
begins line words = starts_with nat_eq line words

abbrev pub begins_with_digit : List ℕ → Bool
begins_with_digit [] = false
begins_with_digit (byte ∷ rest) = nat_le 48 byte && nat_le byte 57

-- `refused N`: `refused by` says who refuses a service, which is what was asked
abbrev pub is_numbered : List ℕ → Bool
is_numbered line = begins line (codes "refused ") && begins_with_digit (drop 8 line)

-- the line wasn't obeyed; an answer says so by its first line
abbrev pub is_refusal : List ℕ → Bool
is_refusal line =
    is_numbered line || begins line (codes "refused at edit ") || begins line (codes "fault ")
    || begins line (codes "unread ")
    || begins line (codes "devices fault ") || begins line (codes "devices unread ")
    || begins line (codes "busy ") || bytes_eq line (codes "busy" ++ 10 ∷ [])

-- an edit was made that a restart would lose; the answer itself comes after this
abbrev pub is_note : List ℕ → Bool
is_note line = begins line (codes "not kept: ")

-- the line is none of a console
abbrev pub is_bad_edit : List ℕ → Bool
is_bad_edit line = bytes_eq line (codes "refused 1 BadEdit" ++ 10 ∷ [])

-- ---- a whole answer, and several

abbrev pub worse : Heard → Heard → Heard
worse Refused before = Refused
worse Unkept Refused = Refused
worse Unkept Well = Unkept
worse Unkept Unkept = Unkept
worse Well before = before

-- what its lines say, each with its LF
abbrev pub heard_of : List (List ℕ) → Heard
heard_of [] = Well
heard_of (line ∷ rest) =
    if is_note line then worse (heard_of rest) Unkept
    else if is_refusal line then Refused else Well

-- ---- line by line

abbrev pub nothing : Listening
nothing = record { heard = Well; is_open = true }

abbrev pub opened : Listening → List ℕ → Listening
opened listening line =
    if is_note line then record { heard = Unkept; is_open = true }
    else record { heard = if is_refusal line then Refused else listening.heard; is_open = false }

abbrev pub after : Listening → List ℕ → Listening
after listening line = if listening.is_open then opened listening line else listening

abbrev pub after_all : Listening → List (List ℕ) → Listening
after_all listening [] = listening
after_all listening (line ∷ rest) = after_all (after listening line) rest

-- what is heard line by line is what is heard of the whole answer
abbrev pub HearsAnswers : Type 0
HearsAnswers = (lines : List (List ℕ)) → (after_all nothing lines).heard ≡ heard_of lines
