-- What makes it doubtful that a key is the one that was meant (docs/DEVICES.md, "Remarks"). It is
-- the key all the same, to the byte.
use Rattle.std.specs.Prelude.{ℕ, ◌+◌, ◌*◌, ◌%◌, List, [], ◌∷◌, length, take, drop, get_or, codes}
use Rattle.std.specs.Prelude.{Bool, true, false, not, ◌&&◌, ◌||◌, ◌==◌, nat_eq, nat_le, nat_lt}
use Rattle.std.specs.Prelude.{◌-◌, bit_xor, is_some, Option, Some, None, if◌then◌else◌}
use Rattle.std.specs.Option.{option_map, option_map_or, option_and_then}
use Rattle.std.specs.List.{list_all, starts_with, ends_with}
use Rattle.basics.specs.Symbol.{is_symbol}
use Rattle.basics.specs.Number.{number_of}
use Rattle.tac_devices.specs.declared.doubt.KeyDoubt.{KeyDoubt}
use Rattle.tac_devices.specs.declared.doubt.KeyDoubt.TheVariants.{BlankAtEnd, Quoted, Comment, Assignment}
use Rattle.tac_devices.specs.declared.doubt.KeyDoubt.TheVariants.{Type7, OneCharacter}

abbrev pub begins : List ℕ → List ℕ → Bool
begins key word = starts_with nat_eq key word

abbrev pub ends : List ℕ → List ℕ → Bool
ends key word = ends_with nat_eq key word

-- a blank begins or ends it
abbrev pub has_blank_at_end : List ℕ → Bool
has_blank_at_end key = begins key (codes " ") || ends key (codes " ")

-- it begins with this quote, and what follows ends with it
abbrev pub is_between : ℕ → List ℕ → Bool
is_between quote [] = false
is_between quote (byte ∷ bytes) = byte == quote && ends bytes (quote ∷ [])

-- it stands in quotes, double or single ones
abbrev pub is_quoted : List ℕ → Bool
is_quoted key = is_between 34 key || is_between 39 key

-- a `#` follows a blank somewhere
abbrev pub has_comment : List ℕ → Bool
has_comment [] = false
has_comment (byte ∷ bytes) = byte == 32 && begins bytes (codes "#") || has_comment bytes

-- it begins as an assignment does, behind the word `key` or with it
abbrev pub is_assignment : List ℕ → Bool
is_assignment key =
    begins key (codes "= ") || begins key (codes "key =") || begins key (codes "key=")

-- these are one character again and again
abbrev pub are_all : ℕ → List ℕ → Bool
are_all letter text = list_all (λ other. other == letter) text

-- it is one character, alone or again and again
abbrev pub is_one_character : List ℕ → Bool
is_one_character [] = false
is_one_character (byte ∷ bytes) = are_all byte bytes

-- ---- Cisco's type 7

-- what type 7 hides a text under: each byte under that of the next place
abbrev pub mask : List ℕ
mask = codes "dsfd;kfoA,.iyewrkldJKDHSUBsgvca69834ncxv9873254k;fg87"

-- the number that a hexadecimal digit is
abbrev pub digit_of : ℕ → Option ℕ
digit_of symbol =
    if nat_le 48 symbol && nat_le symbol 57 then Some (symbol - 48)
    else if nat_le 65 symbol && nat_le symbol 70 then Some (symbol - 55)
    else if nat_le 97 symbol && nat_le symbol 102 then Some (symbol - 87) else None

-- the byte that two of them are
abbrev pub byte_of : ℕ → ℕ → Option ℕ
byte_of high low =
    option_and_then (λ high. option_map (λ low. high * 16 + low) (digit_of low)) (digit_of high)

-- two digits hide a symbol at this place
abbrev pub hide_symbol : ℕ → ℕ → ℕ → Bool
hide_symbol place high low =
    option_map_or (λ byte. is_symbol (bit_xor byte (get_or mask place 0))) (byte_of high low) false

-- digits hide symbols from this place on, two each
abbrev pub hide_text : ℕ → List ℕ → Bool
hide_text place [] = true
hide_text place (digit ∷ []) = false
hide_text place (high ∷ low ∷ digits) =
    hide_symbol place high low && hide_text ((place + 1) % 53) digits

-- these are decimal digits
abbrev pub are_decimal : List ℕ → Bool
are_decimal text = list_all (λ symbol. nat_le 48 symbol && nat_le symbol 57) text

-- the first two digits tell the place, up to 15, and the others hide symbols from there on. That is
-- hardly so of digits that were drawn, but of many numbers in decimal digits, so not of those
abbrev pub is_hidden : List ℕ → Bool
is_hidden key =
    nat_lt 2 (length key) && not (are_decimal key)
    && option_map_or (λ place. nat_le place 15 && hide_text place (drop 2 key))
    (number_of 2 (take 2 key)) false

-- these are hexadecimal digits
abbrev pub are_hex : List ℕ → Bool
are_hex text = list_all (λ symbol. is_some (digit_of symbol)) text

-- an even number of hexadecimal digits, at least four
abbrev pub is_hex : List ℕ → Bool
is_hex text =
    nat_le 4 (length text) && length text % 2 == 0 && are_hex text

-- such digits behind a `7` and a blank, as a configuration has them, or a hidden text alone
abbrev pub is_type_7 : List ℕ → Bool
is_type_7 key = begins key (codes "7 ") && is_hex (drop 2 key) || is_hidden key

-- ---- all of these

-- why a key is doubtful, by the first reason that there is
abbrev pub doubt_of : List ℕ → Option KeyDoubt
doubt_of key =
    if has_blank_at_end key then Some BlankAtEnd
    else if is_quoted key then Some Quoted
    else if has_comment key then Some Comment
    else if is_assignment key then Some Assignment
    else if is_type_7 key then Some Type7
    else if is_one_character key then Some OneCharacter else None

-- how that is told; never by the key
abbrev pub doubt_text : KeyDoubt → List ℕ
doubt_text BlankAtEnd = codes "a key with a blank at an end, which is part of it"
doubt_text Quoted = codes "a key in quotes, which are part of it"
doubt_text Comment = codes "a key with '#' after a blank: no comment, but part of it"
doubt_text Assignment = codes "a key that begins with 'key =' or '= ', which is part of it"
doubt_text Type7 = codes "a key that looks like Cisco's type 7: it is taken as it stands"
doubt_text OneCharacter = codes "a key of one character, alone or repeated"
