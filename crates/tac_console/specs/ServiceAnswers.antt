-- How it is told what a user is given for a service, now and before (docs/CONSOLE.md). Every line
-- ends in LF.
use Rattle.std.specs.Prelude.{ℕ, List, [], ◌∷◌, ◌++◌, codes, Bool, ◌&&◌, Option, Some, None}
use Rattle.std.specs.Prelude.{if◌then◌else◌}
use Rattle.std.specs.List.{flat_map, list_all, list_any}
use Rattle.std.specs.Str.{bytes_eq}
use Rattle.pol_names.specs.Service.{service_text}
use Rattle.pol_meaning.specs.declared.ServiceChange.{ServiceChange}

-- whether the argument is one of these
abbrev pub has : List (List ℕ) → List ℕ → Bool
has arguments argument = list_any (bytes_eq argument) arguments

-- whether all of the second list are in the first
abbrev pub has_all : List (List ℕ) → List (List ℕ) → Bool
has_all arguments others = list_all (has arguments) others

-- the user, the service, and what is said of it
abbrev pub said_line : ServiceChange → List ℕ → List ℕ
said_line change what =
    codes "user " ++ change.user ++ codes " service " ++ service_text change.service
    ++ what ++ 10 ∷ []

-- a line for an argument that the others don't have
abbrev pub unless_had : ServiceChange → List ℕ → List (List ℕ) → List ℕ → List ℕ
unless_had change what others argument =
    if has others argument then [] else said_line change (what ++ argument)

-- lines for the arguments that the others don't have
abbrev pub without : ServiceChange → List ℕ → List (List ℕ) → List (List ℕ) → List ℕ
without change what others arguments = flat_map (unless_had change what others) arguments

-- what is given now, and wasn't before; what was, and isn't now; or that the order alone differs
abbrev pub regiven_lines : ServiceChange → List (List ℕ) → List (List ℕ) → List ℕ
regiven_lines change was is =
    if has_all was is && has_all is was
    then said_line change (codes " gives the same in another order")
    else without change (codes " now gives: ") was is
    ++ without change (codes " no longer gives: ") is was

-- the arguments that the user was given, and those given now, where it was granted and is
abbrev pub by_replies : ServiceChange → Option (List (List ℕ)) → Option (List (List ℕ)) → List ℕ
by_replies change None None = []
by_replies change None (Some is) =
    said_line change (codes " now granted") ++ without change (codes " now gives: ") [] is
by_replies change (Some was) None = said_line change (codes " now refused")
by_replies change (Some was) (Some is) = regiven_lines change was is

abbrev pub service_lines : ServiceChange → List ℕ
service_lines change = by_replies change change.was change.is
