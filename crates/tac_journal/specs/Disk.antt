-- Which appends to a file count, where its lines count only once they are on the disk.
use Rattle.std.specs.Prelude.{◌≡◌, ◌<◌, ℕ, List, Bool, not, ◌&&◌, nat_le, if◌then◌else◌}
use Rattle.std.specs.List.{list_any}
use Rattle.tac_journal.specs.declared.disk.Fate.{Fate}
use Rattle.tac_journal.specs.declared.disk.Fate.TheVariants.{Kept, Lost, Open}
use Rattle.tac_journal.specs.declared.disk.Settled.{Settled}

-- a turn of the disk, to which the file was sent with all appends up to this one: it has their
-- lines, or may have lost some. Appends are numbered from 1
pub record Turn : Type 0 where
  pub upto : ℕ
  pub is_kept : Bool

-- one of the turns kept the lines of this append
abbrev pub is_kept : List Turn → ℕ → Bool
is_kept turns number = list_any (λ turn. turn.is_kept && nat_le number turn.upto) turns

-- one of them may have lost some
abbrev pub is_lost : List Turn → ℕ → Bool
is_lost turns number = list_any (λ turn. not turn.is_kept && nat_le number turn.upto) turns

-- what became of an append by the turns so far: what was lost stays so, whatever turns come before
-- or after
abbrev pub fate : List Turn → ℕ → Fate
fate turns number =
    if is_lost turns number then Lost else if is_kept turns number then Kept else Open

-- what is known is right by these turns, of which the latest is the first
pub record Knows (settled : Settled) (turns : List Turn) : Type 0 where
  pub kept : (number : ℕ) → 0 < number → nat_le number settled.kept ≡ is_kept turns number
  pub lost : (number : ℕ) → 0 < number → nat_le number settled.lost ≡ is_lost turns number
