-- Which word of the console a line was probably meant to begin with, where it is none of a console.
use Rattle.std.specs.Prelude.{ℕ, ◌/◌, List, [], ◌∷◌, length, map, find, codes, nat_eq, nat_le, min}
use Rattle.std.specs.Prelude.{Bool, Option, None, if◌then◌else◌}
use Rattle.std.specs.Char.{to_ascii_lowercase}
use Rattle.std.specs.List.{list_any}
use Rattle.std.specs.Option.{option_or, option_map_or}
use Rattle.std.specs.Str.{bytes_eq}
use Rattle.basics.specs.Lines.{split_at_first, without_leading_spaces}
use Rattle.strsim.specs.Edits.{levenshtein_row}
use Rattle.tac_console_client.specs.declared.hint.ConsoleWord.{ConsoleWord}
use Rattle.tac_console_client.specs.declared.hint.ConsoleWord.TheVariants.{Policy, Shadow, Reach}
use Rattle.tac_console_client.specs.declared.hint.ConsoleWord.TheVariants.{Tally, Why, Given}
use Rattle.tac_console_client.specs.declared.hint.ConsoleWord.TheVariants.{Records, Status, Help}
use Rattle.tac_console_client.specs.declared.hint.ConsoleWord.TheVariants.{Operator, Begin, Commit}
use Rattle.tac_console_client.specs.declared.hint.ConsoleWord.TheVariants.{Abandon, Add, Remove}
use Rattle.tac_console_client.specs.declared.hint.ConsoleWord.TheVariants.{Move, Login, Enable}
use Rattle.tac_console_client.specs.declared.hint.ConsoleWord.TheVariants.{LoginHash, EnableHash}
use Rattle.tac_console_client.specs.declared.hint.ConsoleWord.TheVariants.{Clear, Priv, Service}
use Rattle.tac_console_client.specs.declared.hint.ConsoleWord.TheVariants.{Refuse, Insert, Drop}
use Rattle.tac_console_client.specs.declared.hint.ConsoleWord.TheVariants.{Shift, Reload, Rotate}
use Rattle.tac_console_client.specs.declared.hint.ConsoleWord.TheVariants.{Quit, Exit, Logout}

abbrev pub word_text : ConsoleWord → List ℕ
word_text Policy = codes "policy"
word_text Shadow = codes "shadow"
word_text Reach = codes "reach"
word_text Tally = codes "tally"
word_text Why = codes "why"
word_text Given = codes "given"
word_text Records = codes "records"
word_text Status = codes "status"
word_text Help = codes "help"
word_text Operator = codes "operator"
word_text Begin = codes "begin"
word_text Commit = codes "commit"
word_text Abandon = codes "abandon"
word_text Add = codes "add"
word_text Remove = codes "remove"
word_text Move = codes "move"
word_text Login = codes "login"
word_text Enable = codes "enable"
word_text LoginHash = codes "login-hash"
word_text EnableHash = codes "enable-hash"
word_text Clear = codes "clear"
word_text Priv = codes "priv"
word_text Service = codes "service"
word_text Refuse = codes "refuse"
word_text Insert = codes "insert"
word_text Drop = codes "drop"
word_text Shift = codes "shift"
word_text Reload = codes "reload"
word_text Rotate = codes "rotate"
word_text Quit = codes "quit"
word_text Exit = codes "exit"
word_text Logout = codes "logout"

-- the words with which lines of a console begin, at a socket, and those of the client
abbrev pub console_words : List ConsoleWord
console_words =
    Policy ∷ Shadow ∷ Reach ∷ Tally ∷ Why ∷ Given ∷ Records ∷ Status ∷ Help ∷ Operator ∷ Begin ∷
    Commit ∷ Abandon ∷ Add ∷ Remove ∷ Move ∷ Login ∷ Enable ∷ LoginHash ∷ EnableHash ∷ Clear ∷
    Priv ∷ Service ∷ Refuse ∷ Insert ∷ Drop ∷ Shift ∷ Reload ∷ Rotate ∷ Quit ∷ Exit ∷ Logout ∷ []

abbrev pub first_word : List ℕ → List ℕ
first_word line = option_map_or (λ parts. parts.0) (split_at_first 32 line) line

abbrev pub is_word : List ℕ → Bool
is_word text = list_any (λ word. bytes_eq text (word_text word)) console_words

-- how many bytes have to be put in, taken out or exchanged to make the one word of the other: their
-- Levenshtein distance
abbrev pub distance : List ℕ → List ℕ → ℕ
distance from to = levenshtein_row nat_eq from to (length to)

-- the first of these words that is no further away
abbrev pub first_within : List ConsoleWord → List ℕ → ℕ → Option ConsoleWord
first_within words from most = find (λ word. nat_le (distance from (word_text word)) most) words

-- the nearest word of those that are at most two changes away, and at most half as many as the word
-- has bytes; of several the first
abbrev pub nearest_in : List ConsoleWord → List ℕ → Option ConsoleWord
nearest_in words from =
    option_or (first_within words from 0)
    (option_or (first_within words from (min 1 (length from / 2)))
    (first_within words from (min 2 (length from / 2))))

-- a word of the console has nothing nearer; capitals are no change; a word of more than 13 bytes is
-- near none, since none has more than 11
abbrev pub nearest : List ℕ → Option ConsoleWord
nearest word =
    if is_word word then None
    else if nat_le (length word) 13
    then nearest_in console_words (map to_ascii_lowercase word)
    else None

abbrev pub hint : List ℕ → Option ConsoleWord
hint line = nearest (first_word (without_leading_spaces line))
