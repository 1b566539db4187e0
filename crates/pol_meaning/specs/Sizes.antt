-- Which policies are too large: sizes are numbers of residuals, and nothing else is.
use Rattle.std.specs.Prelude.{◌≡◌, ◌⊎◌, ℕ, List, [], ◌∷◌}
use Rattle.pol_residual.specs.Residuals.{HasMoreResiduals}
use Rattle.pol_names.specs.declared.subject_id.SubjectId.{SubjectId}
use Rattle.pol_text.specs.declared.subject.Subject.{Subject}
use Rattle.pol_text.specs.Policy.{id_of}
use Rattle.pol_edit.specs.declared.fault.EditFault.{EditFault}
use Rattle.pol_edit.specs.declared.fault.EditFault.TheVariants.{TooManyStates}
use Rattle.pol_meaning.specs.Along.{patterns_along}

-- the most residuals that the rules along a subject's chain may have together
abbrev pub most_residuals : ℕ
most_residuals = 16384

-- the rules along the chain of the subject have more residuals together
abbrev pub IsLarge : List Subject → Subject → Type 0
IsLarge policy subject = HasMoreResiduals (patterns_along policy subject) most_residuals

-- of these subjects none is large
abbrev pub AreSmall : List Subject → List Subject → Type 0
AreSmall policy [] = Unit {0}
AreSmall policy (subject ∷ rest) = (¬ (IsLarge policy subject)) × AreSmall policy rest

-- the first large one of these subjects has this kind and name
abbrev pub IsFirstLarge : List Subject → List Subject → SubjectId → Type 0
IsFirstLarge policy [] id = ⊥
IsFirstLarge policy (subject ∷ rest) id =
    (IsLarge policy subject × (id ≡ id_of subject))
    ⊎ ((¬ (IsLarge policy subject)) × IsFirstLarge policy rest id)

-- a policy may stand if no subject is large
abbrev pub IsSmall : List Subject → Type 0
IsSmall policy = AreSmall policy policy

-- else the first large one is named: this is what a refusal makes of it
abbrev pub IsRefusedAs : {F : Type 0} → (EditFault → F) → List Subject → F → Type 0
IsRefusedAs as_refusal policy fault =
    (id : SubjectId) × (fault ≡ as_refusal (TooManyStates id)) × IsFirstLarge policy policy id

abbrev pub IsRefusedFor : List Subject → EditFault → Type 0
IsRefusedFor policy = IsRefusedAs (λ fault. fault) policy
