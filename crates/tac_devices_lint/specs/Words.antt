-- The words with which lines of a devices' file begin, and the one that is nearest to another word
-- (docs/DEVICES.md).
use Rattle.std.specs.Prelude.{ℕ, ◌/◌, List, [], ◌∷◌, length, find, codes, nat_eq, nat_le, min}
use Rattle.std.specs.Prelude.{Option, Some, None, if◌then◌else◌}
use Rattle.std.specs.Option.{option_map_or, option_or}
use Rattle.std.specs.Str.{bytes_eq}
use Rattle.basics.specs.Lines.{split_at_first}
use Rattle.strsim.specs.Edits.{levenshtein_row}
use Rattle.tac_devices_lint.specs.declared.word.LineWord.{LineWord}
use Rattle.tac_devices_lint.specs.declared.word.LineWord.TheVariants.{Device, At, Key, OldKey}
use Rattle.tac_devices_lint.specs.declared.word.LineWord.TheVariants.{Tls, Connections}

abbrev pub word_text : LineWord → List ℕ
word_text Device = codes "device"
word_text At = codes "at"
word_text Key = codes "key"
word_text OldKey = codes "old-key"
word_text Tls = codes "tls"
word_text Connections = codes "connections"

-- the word that a text is
abbrev pub word_of : List ℕ → Option LineWord
word_of word =
    if bytes_eq word (codes "device") then Some Device
    else if bytes_eq word (codes "at") then Some At
    else if bytes_eq word (codes "key") then Some Key
    else if bytes_eq word (codes "old-key") then Some OldKey
    else if bytes_eq word (codes "tls") then Some Tls
    else if bytes_eq word (codes "connections") then Some Connections
    else None

-- the first word of a text, and what comes after the space that ends it
abbrev pub words_of : List ℕ → List ℕ × List ℕ
words_of text = option_map_or (λ parts. parts) (split_at_first 32 text) (text, [])

-- ---- words that are near

-- all of them, in the order of docs/DEVICES.md
abbrev pub known_words : List LineWord
known_words = Device ∷ At ∷ Key ∷ OldKey ∷ Tls ∷ Connections ∷ []

-- how many bytes have to be put in, taken out or exchanged to make the one word of the other: their
-- Levenshtein distance
abbrev pub distance : List ℕ → List ℕ → ℕ
distance from to = levenshtein_row nat_eq from to (length to)

-- the first of these words that is no further away
abbrev pub first_within : List LineWord → List ℕ → ℕ → Option LineWord
first_within words from most = find (λ word. nat_le (distance from (word_text word)) most) words

-- the nearest word of those that are at most two changes away, and at most half as many as the word
-- has bytes; of several the first
abbrev pub nearest_of : List ℕ → Option LineWord
nearest_of from =
    option_or (first_within known_words from 0)
    (option_or (first_within known_words from (min 1 (length from / 2)))
    (first_within known_words from (min 2 (length from / 2))))
