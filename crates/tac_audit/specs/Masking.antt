-- Lines of the console, and its answers, without their secrets (docs/AUDIT.md).
use Rattle.std.specs.Prelude.{◌≡◌, ◌⊎◌, ◌≢◌, ◌≤◌, ◌+◌, ◌-◌, ℕ, List, [], ◌∷◌, ◌++◌, length, map}
use Rattle.std.specs.Prelude.{take, drop, Bool, not, ◌||◌, bytes_eq, nat_le, nat_lt, IsTrue, codes}
use Rattle.std.specs.Prelude.{Option, Some, None, if◌then◌else◌}
use Rattle.std.specs.List.{list_all, position, flat_map}
use Rattle.std.specs.Option.{option_and_then, option_map, option_map_or}
use Rattle.std.specs.Str.{str_eq_ignore_ascii_case}
use Rattle.basics.specs.Lines.{lines_of, split_at_first}
use Rattle.tac_audit.specs.declared.event.Typist.{Typist}
use Rattle.tac_audit.specs.declared.event.Typed.{Typed}

-- ---- lines of the console

-- a space, a tab, or any other byte that is no printable ASCII character: a name has none
abbrev pub is_blank : ℕ → Bool
is_blank byte = nat_le byte 0x20 || nat_le 0x7F byte

-- a text without the blanks that it begins with
abbrev pub without_blanks : List ℕ → List ℕ
without_blanks [] = []
without_blanks (byte ∷ bytes) = if is_blank byte then without_blanks bytes else byte ∷ bytes

-- what stands before the first blank, and what follows it; nothing without a blank
unfoldable pub split_word : List ℕ → Option (List ℕ × List ℕ)
split_word text = option_map (λ at. (take at text, drop (at + 1) text)) (position is_blank text)

-- `login`, `enable`, `login-hash` or `enable-hash`, also in capitals
abbrev pub sets_secret : List ℕ → Bool
sets_secret word =
    str_eq_ignore_ascii_case word (codes "login") || str_eq_ignore_ascii_case word (codes "enable")
    || str_eq_ignore_ascii_case word (codes "login-hash")
    || str_eq_ignore_ascii_case word (codes "enable-hash")

-- what follows the second word, where the first has set a secret
abbrev pub secret_after : List ℕ × List ℕ → Option (List ℕ)
secret_after parts =
    if sets_secret parts.0 then option_map (λ parts. parts.1) (split_word (without_blanks parts.1))
    else None

-- the secret of a line: all that follows the blank after its second word
unfoldable pub secret_of : List ℕ → Option (List ℕ)
secret_of line = option_and_then secret_after (split_word (without_blanks line))

-- a line with a star for its secret
unfoldable pub masked : List ℕ → List ℕ
masked line =
    option_map_or (λ secret. take (length line - length secret) line ++ codes "*") (secret_of line)
    line

-- bytes of a word
abbrev pub IsWord : List ℕ → Type 0
IsWord word = IsTrue (list_all (λ byte. not (is_blank byte)) word)

abbrev pub AreBlank : List ℕ → Type 0
AreBlank bytes = IsTrue (list_all is_blank bytes)

-- what stands before a secret: a word that sets one, a name, and a blank. Any blanks may come
-- before it, and further ones between the two
pub record OpensSecret (head : List ℕ) : Type 0 where
  pub before : List ℕ
  pub before_blank : AreBlank before
  pub verb : List ℕ
  pub verb_sets : IsTrue (sets_secret verb)
  pub between : List ℕ
  pub between_blank : AreBlank between
  pub between_some : between ≢ []
  pub name : List ℕ
  pub name_word : IsWord name
  pub name_some : name ≢ []
  pub blank : ℕ
  pub blank_is : IsTrue (is_blank blank)
  pub spelled : head ≡ before ++ verb ++ between ++ name ++ blank ∷ []

-- ---- lines of an answer

-- `login`, `enable`, `login-hash` or `enable-hash`, as a policy is printed
abbrev pub is_setting : List ℕ → Bool
is_setting word =
    bytes_eq word (codes "login") || bytes_eq word (codes "enable")
    || bytes_eq word (codes "login-hash") || bytes_eq word (codes "enable-hash")

abbrev pub IsSetting : List ℕ → Type 0
IsSetting word =
    ((word ≡ codes "login") ⊎ (word ≡ codes "enable"))
    ⊎ ((word ≡ codes "login-hash") ⊎ (word ≡ codes "enable-hash"))

-- a word of these, a space and a star
abbrev pub masked_setting : List ℕ → List ℕ × List ℕ → List ℕ
masked_setting line parts = if is_setting parts.0 then parts.0 ++ codes " *" else line

-- a line with a star for its secret
unfoldable pub masked_answer : List ℕ → List ℕ
masked_answer line = option_map_or (masked_setting line) (split_at_first 32 line) line

-- ---- a whole answer

abbrev pub with_end : List ℕ → List ℕ
with_end line = line ++ 10 ∷ []

-- lines as a text, each with its LF
abbrev pub text_of : List (List ℕ) → List ℕ
text_of lines = flat_map with_end lines

-- an answer without its secrets
abbrev pub masked_text : List ℕ → List ℕ
masked_text answer = text_of (map masked_answer (lines_of answer))

-- how many bytes of that are told at most
unfoldable pub most_told : ℕ
most_told = 4096

-- how many it has, where only the first are told
abbrev pub size_told : ℕ → Option ℕ
size_told size = if nat_lt most_told size then Some size else None

-- ---- both

-- what was typed, by whom, and the lines of the first bytes of its answer. Secrets are hidden
-- before it is cut, so neither the cut nor the size tells how long they are
unfoldable pub typed_of : List ℕ → Typist → List ℕ → List ℕ → Typed
typed_of time typist line answer =
    record {
      time = time;
      typist = typist;
      console = masked line;
      answer_bytes = size_told (length (masked_text answer));
      answer = lines_of (take most_told (masked_text answer));
    }

-- all lines of a short answer are told
abbrev pub IsToldWhole : List ℕ → Typist → List ℕ → List ℕ → Type 0
IsToldWhole time typist line answer =
    length (masked_text answer) ≤ most_told → typed_of time typist line answer
    ≡ record {
      time = time;
      typist = typist;
      console = masked line;
      answer_bytes = None;
      answer = map masked_answer (lines_of answer);
    }
