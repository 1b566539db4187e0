-- Which appends a disk kept, and which it may have lost, after one more turn.
use Rattle.std.proofs.Common.{◌≡◌, ℕ, ◌<◌, ◌≤◌, Bool, true, false, List, [], ◌∷◌, refl, sym, ap, ◌∙◌, arith}
use Rattle.std.specs.Prelude.{nat_le, ◌||◌}
use Rattle.std.proofs.lemmas.Bool.{le-leb, lt-leb, leb-true, leb-false}
use Rattle.tac_journal.specs.declared.disk.Settled.{Settled}
use Rattle.tac_journal.specs.Disk.{Turn, Knows}

-- what comes up to the greater of two comes up to one of them
pub up_to_second : (n a b : ℕ) → a ≤ b → nat_le n b ≡ (nat_le n a || nat_le n b)
up_to_second n a b le = by_first (nat_le n a) refl
  where
    by_first : (t : Bool) → nat_le n a ≡ t → nat_le n b ≡ (t || nat_le n b)
    by_first false e = refl
    by_first true e = le-leb n b (omega (arith, leb-true n a e, le))

pub up_to_first : (n a b : ℕ) → b < a → nat_le n a ≡ (nat_le n a || nat_le n b)
up_to_first n a b lt = by_first (nat_le n a) refl
  where
    by_first : (t : Bool) → nat_le n a ≡ t → nat_le n a ≡ (t || nat_le n b)
    by_first true e = e
    by_first false e = e ∙ sym (lt-leb n b (omega (arith, leb-false n a e, lt)))

none_up_to : (n : ℕ) → 0 < n → nat_le n 0 ≡ false
none_up_to n some = lt-leb n 0 some

-- before the first turn
pub knows_none : Knows (record { kept = 0; lost = 0 }) []
knows_none = record { kept = λ n some. none_up_to n some; lost = λ n some. none_up_to n some }

pub knows_kept : (before : List Turn) (old new : Settled) (upto : ℕ) → Knows old before
    → ((n : ℕ) → nat_le n new.kept ≡ (nat_le n upto || nat_le n old.kept)) → new.lost ≡ old.lost → Knows new (record { upto = upto; is_kept = true } ∷ before)
knows_kept before old new upto knows kept same = record {
  kept = λ n some. kept n ∙ ap (λ (b : Bool). nat_le n upto || b) (knows.kept n some);
  lost = λ n some. ap (λ (m : ℕ). nat_le n m) same ∙ knows.lost n some;
}

pub knows_lost : (before : List Turn) (old new : Settled) (upto : ℕ) → Knows old before
    → ((n : ℕ) → nat_le n new.lost ≡ (nat_le n upto || nat_le n old.lost)) → new.kept ≡ old.kept → Knows new (record { upto = upto; is_kept = false } ∷ before)
knows_lost before old new upto knows lost same = record {
  kept = λ n some. ap (λ (m : ℕ). nat_le n m) same ∙ knows.kept n some;
  lost = λ n some. lost n ∙ ap (λ (b : Bool). nat_le n upto || b) (knows.lost n some);
}
