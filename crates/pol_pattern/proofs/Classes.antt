-- Classes by their symbols.
use Rattle.std.proofs.Common.{◌≡◌, ℕ, zero, suc, ◌+◌, ◌<◌, Bool, false, ◌||◌, ◌&&◌, leb, eqb, length, get_or, map, refl, sym, ap, ◌∙◌, arith}
use Rattle.std.proofs.lemmas.List.{ext_get_or}
use Rattle.std.proofs.lemmas.Bool.Decides.{nat_tests}
use Rattle.pol_pattern.specs.Flat.{Class, numbers_from, class_where}

pub length-numbers_from : (test : ℕ → Bool) (first count : ℕ) → length (map test (numbers_from first count)) ≡ count
unfolding numbers_from
length-numbers_from test first zero = refl
length-numbers_from test first (suc count) = let h = length-numbers_from test (first + 1) count in omega arith

pub at-numbers_from : (test : ℕ → Bool) (first count k : ℕ) → k < count → get_or (map test (numbers_from first count)) k false ≡ test (first + k)
unfolding numbers_from
at-numbers_from test first zero k h = absurd (omega arith)
at-numbers_from test first (suc count) zero h = ap test (omega arith)
at-numbers_from test first (suc count) (suc k) h =
    at-numbers_from test (first + 1) count k (omega arith) ∙ ap test (omega arith)

pub length-class_where : (test : ℕ → Bool) → length (class_where test) ≡ 95
unfolding class_where
length-class_where test = length-numbers_from test 0x20 95

pub at-class_where : (test : ℕ → Bool) (k : ℕ) → k < 95 → get_or (class_where test) k false ≡ test (0x20 + k)
unfolding class_where
at-class_where test k h = at-numbers_from test 0x20 95 k h

-- a class is known by its symbols
pub class_by_symbols : (class : Class) (test : ℕ → Bool) → length class ≡ 95 → ((k : ℕ) → k < 95 → get_or class k false ≡ test (0x20 + k)) → class ≡ class_where test
class_by_symbols class test wide each =
    ext_get_or false class (class_where test) (wide ∙ sym (length-class_where test)) (λ k lt.
    each k (omega (arith, wide)) ∙ sym (at-class_where test k (omega (arith, wide))))

-- tests that agree make one class
pub class_where-same : (test other : ℕ → Bool) → ((byte : ℕ) → test byte ≡ other byte) → class_where test ≡ class_where other
class_where-same test other same =
    class_by_symbols (class_where test) other (length-class_where test) (λ k lt. at-class_where test k lt ∙ same (0x20 + k))

pub within_one : (symbol byte : ℕ) → (false || (leb symbol byte && leb byte symbol)) ≡ eqb byte symbol
within_one symbol byte = grind (arith, nat_tests)
