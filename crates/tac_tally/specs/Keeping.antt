-- How many records are kept, which of them go where one more comes, and their numbers: the first
-- record that comes has number 1, and each keeps the number that it has.
use Rattle.std.specs.Prelude.{ℕ, ◌+◌, ◌-◌, ◌/◌, ◌^◌, Bool, ◌==◌, ◌&&◌, ◌||◌, List, [], ◌∷◌, ◌++◌}
use Rattle.std.specs.Prelude.{length, drop, if◌then◌else◌}
use Rattle.tac_tally.specs.declared.limit.AtLimit.{AtLimit}
use Rattle.tac_tally.specs.declared.limit.AtLimit.TheVariants.{Refuse, Forget}
use Rattle.tac_tally.specs.declared.limit.RecordLimit.{RecordLimit}

abbrev pub refusing : ℕ → RecordLimit
refusing most = record { most = most; at_limit = Refuse }

abbrev pub forgetting : ℕ → RecordLimit
forgetting most = record { most = most; at_limit = Forget }

-- half of so many, rounded up
abbrev pub older_half : ℕ → ℕ
older_half most = most - most / 2

-- how many of the oldest go where as many are kept as may be
abbrev pub gone_at : AtLimit → ℕ → ℕ
gone_at Refuse most = 0
gone_at Forget most = older_half most

-- how many of so many go before one more is stored
abbrev pub goes : RecordLimit → ℕ → ℕ
goes limit many = if many == limit.most then gone_at limit.at_limit limit.most else 0

-- numbers end here
abbrev pub last_number : ℕ
last_number = 2 ^ 64 - 1

-- no further record is stored where this limit holds, so many were forgotten, and so many are kept:
-- as many as may be, none of which goes; or there is no number left
abbrev pub is_full : RecordLimit → ℕ → ℕ → Bool
is_full limit forgotten many =
    (many == limit.most && goes limit many == 0) || forgotten + many == last_number

-- the records that are kept once one more is stored
abbrev pub kept : {X : Type 0} → RecordLimit → List X → X → List X
kept limit records item = drop (goes limit (length records)) records ++ item ∷ []
