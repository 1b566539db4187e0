-- By how much the meter rises: by the residuals of what each automaton that is made is of.
use Rattle.std.specs.Prelude.{◌≡◌, ◌+◌, ℕ, min, List, [], ◌∷◌, Bool, true, false, ◌&&◌, is_some}
use Rattle.pol_residual.specs.Residuals.{IsResidualCount}
use Rattle.pol_text.specs.declared.subject.Subject.{Subject}
use Rattle.pol_edit.specs.declared.edit.Edit.{Edit}
use Rattle.pol_meaning.specs.Along.{patterns_along}
use Rattle.pol_live.specs.Kept.{has_rules, is_keeper, own_patterns}
use Rattle.pol_live.specs.declared.touching.Touched.{Touched}
use Rattle.pol_live.specs.Renewing.{touched_by, touched_between, renews_own, renews_chain}

-- a keeper with a group has one more automaton, joined of its own and what it inherits
abbrev pub is_joined : Subject → Bool
is_joined subject = has_rules subject && is_some subject.parent

-- how many residuals there are, if they count
abbrev pub IsCount : Bool → List (List ℕ) → ℕ → Type 0
IsCount true entries count = IsResidualCount entries count
IsCount false entries count = count ≡ 0

-- the sum over these subjects
abbrev pub IsSum : (Subject → ℕ → Type 0) → List Subject → ℕ → Type 0
IsSum each [] sum = sum ≡ 0
IsSum each (subject ∷ rest) sum = (here later : ℕ)
    × each subject here × IsSum each rest later × (sum ≡ here + later)

-- the residuals of the own rules of some subjects, and of the rules along the chains of some
abbrev pub IsRise : (Subject → Bool) → (Subject → Bool) → List Subject → ℕ → Type 0
IsRise own joined policy rise = (owns chains : ℕ)
    × IsSum (λ subject. IsCount (own subject) (own_patterns subject)) policy owns
    × IsSum (λ subject. IsCount (joined subject) (patterns_along policy subject)) policy chains
    × (rise ≡ owns + chains)

-- a policy that is built: of its keepers, and of those with a group
abbrev pub IsBuildRise : List Subject → ℕ → Type 0
IsBuildRise policy = IsRise is_keeper is_joined policy

-- one in which these subjects are touched: of those alone that are made anew
abbrev pub IsRenewalRise : Touched → List Subject → ℕ → Type 0
IsRenewalRise touched policy = IsRise (λ subject. is_keeper subject && renews_own touched subject)
    (λ subject. is_joined subject && renews_chain touched policy subject) policy

-- one that these edits make together
abbrev pub IsEditRise : List Edit → List Subject → ℕ → Type 0
IsEditRise edits policy = IsRenewalRise (touched_by edits) policy

-- one that takes the place of another
abbrev pub IsReplacingRise : List Subject → List Subject → ℕ → Type 0
IsReplacingRise before policy = IsRenewalRise (touched_between before policy) policy

-- no other number is right
abbrev pub IsOne : (ℕ → Type 0) → Type 0
IsOne by = (rise other : ℕ) → by rise → by other → rise ≡ other

-- ---- the meter, which stays at its greatest value, 2 ^ 128 - 1

abbrev pub most : ℕ
most = 340282366920938463463374607431768211455

abbrev pub Rises : (ℕ → Type 0) → ℕ → ℕ → Type 0
Rises by before after = (rise : ℕ) × by rise × (after ≡ min (before + rise) most)
