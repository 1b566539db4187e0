-- What a server begins with: its workers, and the desk of its policy, or what is printed where
-- there is none.
use Rattle.std.specs.Prelude.{◌≡◌, ℕ, ◌-◌, ◌*◌, ◌^◌, min, max, List, [], Bool, true, false}
use Rattle.std.specs.Prelude.{Option, Some, None, Result, Ok, Err}
use Rattle.pol_text.specs.declared.subject.Subject.{Subject}
use Rattle.pol_live.specs.declared.judging.TextRefusal.{TextRefusal}
use Rattle.tac_tally.specs.Keeping.{refusing, forgetting}
use Rattle.tac_tally.specs.declared.limit.RecordLimit.{RecordLimit}
use Rattle.tac_desk.specs.Meaning.{max_records, opened}
use Rattle.tac_desks.specs.Metered.{Metered}
use Rattle.tac_review.specs.Judged.{refusal_line, ByJudged}

-- a server that is told how many records to keep keeps the latest; else the first that come are
-- kept, and no more
abbrev pub record_limit : Option ℕ → RecordLimit
record_limit None = refusing max_records
record_limit (Some most) = forgetting most

-- a server has as many workers as it is told; else one for each processor, but at least one and at
-- most 16, and as many as that where lines count only once they are on the disk
abbrev pub workers : Option ℕ → Bool → ℕ → ℕ
workers (Some given) syncs processors = given
workers None true processors = 16
workers None false processors = max 1 (min 16 processors)

-- as many threads work passwords out as there are processors but one, at least one and at most four
abbrev pub hashers : ℕ → ℕ
hashers processors = max 1 (min 4 (processors - 1))

-- the bytes of so many megabytes, of which each has 2^20
abbrev pub megabytes : ℕ → ℕ
megabytes count = count * 2 ^ 20

-- a policy that may stand has a desk that keeps records by this limit, and nothing is printed; of a
-- text that is refused, why is printed, as its check prints it
abbrev pub IsDeskOf : RecordLimit → Result (List Subject) TextRefusal → List ℕ → Option Metered
    → Type 0
IsDeskOf limit (Ok policy) printed (Some desk) =
    (desk.meaning ≡ opened policy limit) × (printed ≡ [])
IsDeskOf limit (Err refusal) printed None = printed ≡ refusal_line refusal
IsDeskOf limit _ printed _ = ⊥

-- the desk of a policy's text
abbrev pub IsDeskOfText : RecordLimit → List ℕ → List ℕ → Option Metered → Type 0
IsDeskOfText limit text printed desk = ByJudged (IsDeskOf limit) text printed desk
