-- The segments into which a history is cut, one after another.
use Rattle.std.specs.Prelude.{◌≡◌, ℕ, suc, List, [], ◌∷◌, ◌++◌, map, length, false}
use Rattle.tac_desk.specs.Meaning.{Meaning}
use Rattle.tac_hall.specs.Calls.{Entry, is_closed, Legal}
use Rattle.tac_hall.specs.declared.event.Event.{Event}
use Rattle.tac_hall.specs.History.{place_of, log_of, ended_of}

-- ---- a segment

-- the number of the segment, what the desk represented at its beginning, the calls since then, and
-- what the desk represented after the last of them
pub record Stretch : Type 0 where
  pub number : ℕ
  pub base : Meaning
  pub log : List Entry
  pub end : Meaning

-- its log is a legal history from its base to its end, without a Stop
pub record IsStretch (segment : Stretch) : Type 0 where
  pub legal : Legal segment.base segment.log segment.end
  pub goes_on : is_closed segment.log ≡ false

-- the second follows the first: its number is the next, and it begins with what the first ends with
abbrev pub Joins : Stretch → Stretch → Type 0
Joins first second = (second.number ≡ suc first.number) × (second.base ≡ first.end)

-- the calls of both, from the beginning of the first to the end of the second
abbrev pub as_one : Stretch → Stretch → Stretch
as_one first second = record {
  number = first.number;
  base = first.base;
  log = first.log ++ second.log;
  end = second.end;
}

-- ---- one after another

-- these segments have ended, one after another. They have the numbers from this one on, and each
-- is a legal history without a Stop. The first began with this, each other with what the one before
-- it ended with, and the last ended with that
abbrev pub AreJoined : ℕ → Meaning → List Stretch → Meaning → Type 0
AreJoined number base [] end = end ≡ base
AreJoined number base (segment ∷ segments) end =
    (segment.number ≡ number) × (segment.base ≡ base) × IsStretch segment
    × AreJoined (suc number) segment.end segments end

-- the present segment of a history: it has the next number, begins with what the ones that have
-- ended came to, and has exactly the calls since then, which are legal
pub record IsPresent (first : Meaning) (history : List (ℕ × Event)) (present : Stretch) : Type 0
  where
    pub ended : List Stretch
    pub joined : AreJoined 0 first ended present.base
    pub logs : ended_of history ≡ map (λ segment. segment.log) ended
    pub number : present.number ≡ length ended
    pub log : present.log ≡ log_of history
    pub legal : Legal present.base present.log present.end
    pub place : place_of history
        ≡ record { segment = present.number; entries = length present.log }

-- a segment that has ended and the one that follows it are one legal history
abbrev pub JoinsLaw : Type 0
JoinsLaw =
    (first second : Stretch) → IsStretch first → IsStretch second → Joins first second
    → IsStretch (as_one first second)
