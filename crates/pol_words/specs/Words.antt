-- The words of a policy's lines.
use Rattle.std.specs.Prelude.{ℕ, List, [], codes, nat_eq, Bool, ◌||◌, if◌then◌else◌}
use Rattle.std.specs.Option.{option_map_or}
use Rattle.std.specs.List.{starts_with, ends_with}
use Rattle.std.specs.Str.{bytes_eq}
use Rattle.basics.specs.Lines.{split_at_first, without_leading_spaces}
use Rattle.pol_names.specs.declared.subject_id.Kind.TheVariants.{Group, User}
use Rattle.pol_words.specs.declared.words.Keyword.{Keyword}
use Rattle.pol_words.specs.declared.words.Keyword.TheVariants.{Opens, Secret, Hash, Level, Rule}
use Rattle.pol_words.specs.declared.words.Keyword.TheVariants.{Service, Nothing}

abbrev pub begins : List ℕ → List ℕ → Bool
begins text start = starts_with nat_eq text start

abbrev pub ends : List ℕ → List ℕ → Bool
ends text end = ends_with nat_eq text end

-- the first word of a text, and what comes after the space that ends it
abbrev pub words_of : List ℕ → List ℕ × List ℕ
words_of text = option_map_or (λ parts. parts) (split_at_first 32 text) (text, [])

-- the same of a line, without the spaces that it begins with
abbrev pub words_in : List ℕ → List ℕ × List ℕ
words_in line = words_of (without_leading_spaces line)

-- what is said of a subject's parent, in `NAME in PARENT`
abbrev pub parent_text : List ℕ → List ℕ
parent_text rest = (words_of (words_of rest).1).1

-- what a line says by its first word
abbrev pub keyword_of : List ℕ → Keyword
keyword_of word =
    if bytes_eq word (codes "group") then Opens Group
    else if bytes_eq word (codes "user") then Opens User
    else if bytes_eq word (codes "login") || bytes_eq word (codes "enable") then Secret
    else if bytes_eq word (codes "login-hash") || bytes_eq word (codes "enable-hash") then Hash
    else if bytes_eq word (codes "priv") then Level
    else if bytes_eq word (codes "service") || bytes_eq word (codes "refuse") then Service
    else if bytes_eq word (codes "permit") || bytes_eq word (codes "deny") then Rule
    else Nothing
