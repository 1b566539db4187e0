-- What the reading of patterns says of their bytes.
use Rattle.std.proofs.Common.{◌≡◌, ℕ, suc, ◌+◌, Bool, true, false, not, cond, ◌&&◌, List, [], ◌∷◌, length, nat_lt, Result, Ok, Err, refl, ◌≤◌, arith}
use Rattle.std.specs.List.{position_or_len}
use Rattle.std.specs.Result.{is_ok}
use Rattle.std.proofs.lemmas.Bool.Decides.{nat_tests}
use Rattle.basics.specs.Symbol.{is_text, is_symbol}
use Rattle.pol_pattern.specs.Reading.{pattern_of, reading, reading_by, is_unprintable}
use Rattle.pol_pattern.specs.Flat.{Terms}
use Rattle.pol_pattern.specs.declared.fault.PatternFault.{PatternFault}

-- bytes that are a pattern are read as themselves
pub pattern_same : (bytes : List ℕ) → is_ok (pattern_of bytes) ≡ true → pattern_of bytes ≡ Ok bytes
unfolding pattern_of
pattern_same bytes h = by (reading bytes) refl h
  where
    by : (r : Result Terms PatternFault) → reading bytes ≡ r → is_ok (pattern_of bytes) ≡ true → pattern_of bytes ≡ Ok bytes
    by (Ok flat) e k = rw e refl
    by (Err fault) e k = let none = rw e at k in absurd cc

no_unprintable : (bytes : List ℕ) → length bytes ≤ position_or_len is_unprintable bytes → is_text bytes ≡ true
no_unprintable [] h = refl
no_unprintable (byte ∷ bytes) h = by (is_symbol byte) (λ k. no_unprintable bytes k) h
  where
    by : (b : Bool) → (length bytes ≤ position_or_len is_unprintable bytes → is_text bytes ≡ true)
        → suc (length bytes) ≤ cond (not (not b)) (1 + position_or_len is_unprintable bytes) 0 → (b && is_text bytes) ≡ true
    by true below k = below (omega arith)
    by false below k = absurd (omega arith)

-- and they are symbols
pub pattern_text : (bytes : List ℕ) → is_ok (pattern_of bytes) ≡ true → is_text bytes ≡ true
unfolding pattern_of reading_by
pattern_text bytes h = by (nat_lt (position_or_len is_unprintable bytes) (length bytes)) refl
  where
    over : (b : Bool) → nat_lt 400 (length bytes) ≡ b → nat_lt (position_or_len is_unprintable bytes) (length bytes) ≡ true → ⊥
    over true f e = let k = rw f at h in absurd cc
    over false f e = let k = rw (f, e) at h in absurd cc

    by : (b : Bool) → nat_lt (position_or_len is_unprintable bytes) (length bytes) ≡ b → is_text bytes ≡ true
    by true e = absurd (over (nat_lt 400 (length bytes)) refl e)
    by false e = no_unprintable bytes (grind (arith, nat_tests))
