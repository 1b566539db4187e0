-- The number by which the meter rises is the only one of its kind.
use Rattle.std.proofs.Common.{◌≡◌, ℕ, Bool, true, false, List, [], ◌∷◌, sym, ◌∙◌, arith}
use Rattle.pol_automaton.proofs.Counting.{one_count}
use Rattle.pol_text.specs.declared.subject.Subject.{Subject}
use Rattle.pol_meaning.specs.Along.{patterns_along}
use Rattle.pol_live.specs.Kept.{own_patterns}
use Rattle.pol_live.specs.Rise.{IsCount, IsSum, IsRise, IsOne}

one_if : (counts : Bool) (entries : List (List ℕ)) (n m : ℕ) → IsCount counts entries n → IsCount counts entries m → n ≡ m
one_if true entries n m p q = one_count entries n m p q
one_if false entries n m p q = p ∙ sym q

one_sum : (each : Subject → ℕ → Type 0) → ((subject : Subject) (n m : ℕ) → each subject n → each subject m → n ≡ m)
    → (policy : List Subject) (n m : ℕ) → IsSum each policy n → IsSum each policy m → n ≡ m
one_sum each one [] n m p q = p ∙ sym q
one_sum each one (subject ∷ rest) n m (here, later, h, l, is) (there, latter, t, k, so) =
    let first = one subject here there h t in
    let others = one_sum each one rest later latter l k in
    omega (arith, first, others, is, so)

pub one_rise : (own joined : Subject → Bool) (policy : List Subject) → IsOne (IsRise own joined policy)
one_rise own joined policy n m (owns, chains, o, c, is) (others, wholes, p, d, so) =
    let first = one_sum (λ subject. IsCount (own subject) (own_patterns subject)) (λ subject. one_if (own subject) (own_patterns subject)) policy owns others o p in
    let second = one_sum (λ subject. IsCount (joined subject) (patterns_along policy subject)) (λ subject. one_if (joined subject) (patterns_along policy subject)) policy chains wholes c d in
    omega (arith, first, second, is, so)
