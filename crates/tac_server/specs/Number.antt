-- Connection numbers.
use Rattle.std.specs.Prelude.{ℕ, List, nat_le, Option, Some, None, if◌then◌else◌}
use Rattle.std.specs.Option.{option_and_then}
use Rattle.basics.specs.Number.{number_of}

-- 1 to 5 digits, at most 65,535
abbrev pub connection_number_of : List ℕ → Option ℕ
connection_number_of text =
    option_and_then (λ value. if nat_le value 65535 then Some value else None) (number_of 5 text)
