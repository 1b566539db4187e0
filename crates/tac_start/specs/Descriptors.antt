-- How many files a process may have open at once, and how many a server has.
use Rattle.std.specs.Prelude.{ℕ, ◌+◌, ◌*◌, List, [], ◌∷◌, drop, codes, nat_eq}
use Rattle.std.specs.Prelude.{Option, None, if◌then◌else◌}
use Rattle.std.specs.List.{starts_with}
use Rattle.std.specs.Option.{option_or, option_and_then}
use Rattle.basics.specs.Lines.{split_at_first, without_leading_spaces}
use Rattle.basics.specs.Number.{number_of}

-- a number of up to nine digits, with blanks before it and a blank after it
abbrev pub number_among_blanks : List ℕ → Option ℕ
number_among_blanks text =
    option_and_then (λ parts. number_of 9 parts.0) (split_at_first 32 (without_leading_spaces text))

-- the limit that a line tells after its name, if it is the line of open files
abbrev pub limit_of_line : List ℕ → Option ℕ
limit_of_line line =
    if starts_with nat_eq line (codes "Max open files ")
    then number_among_blanks (drop 15 line) else None

-- the first limit that these lines tell
abbrev pub limit_in : List (List ℕ) → Option ℕ
limit_in [] = None
limit_in (line ∷ lines) = option_or (limit_of_line line) (limit_in lines)

-- a connection is one file; a worker has three: its poll, its waker and its file of the log; 16 are
-- for all else, as the console, the port and what a library opens
abbrev pub files_of : ℕ → ℕ → ℕ
files_of connections workers = connections + 3 * workers + 16
