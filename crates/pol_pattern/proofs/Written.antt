-- What is written out of the parts of a level that have at most 400 factors.
use Rattle.std.proofs.Common.{◌≡◌, ℕ, zero, suc, ◌-◌, ◌≤◌, List, [], ◌∷◌, ◌++◌, length, refl, sym, ap, ap₂, subst, ◌∙◌, length-append, arith}
use Rattle.std.proofs.lemmas.List.{same_from_push}
use Rattle.std.specs.Global.{Vec}
use Rattle.pol_pattern.specs.declared.flat.Factor.{Factor as FactorValue}
use Rattle.pol_pattern.specs.declared.building.Level.{Level as LevelValue}
use Rattle.pol_pattern.specs.declared.token.Repeat.{Repeat}
use Rattle.pol_pattern.specs.declared.token.Repeat.TheVariants.{Star, Plus, Question, Counted}
use Rattle.pol_pattern.specs.Flat.{Term, empty, put, star, Terms, none, alt, join_term, join_terms, term_size, terms_size, term_value, terms_value}
use Rattle.pol_pattern.specs.Spelling.{copies, optional, alternatives_of, repeat_factors}
use Rattle.pol_pattern.specs.Reading.{Level, with_repeat, present, finished}
use Rattle.pol_pattern.specs.declared.sizes.Sizes.{Sizes}
use Rattle.pol_pattern.specs.Sizes.{size_of}
use Rattle.pol_pattern.specs.Levels.{Represents}
use Rattle.pol_pattern.proofs.Counts.{size-join_term, size-join_terms, size-star}
use Rattle.pol_pattern.proofs.Values.{term_value-append, terms_value-append}

-- ---- a unit repeated: what is left of a large one has no factors

counted_written : (low options : ℕ) (factors written : Term) → (term_size factors ≤ 400 → written ≡ factors)
    → term_size (join_term (copies low factors) (copies options (optional factors))) ≤ 400
    → join_term (copies low written) (copies options (optional written)) ≡ join_term (copies low factors) (copies options (optional factors))
unfolding copies
counted_written zero zero factors written is fits = refl
counted_written zero (suc options) factors written is fits =
    ap (λ (t : Term). copies (suc options) (optional t)) (is (omega (arith, fits, size-join_term (optional factors) (copies options (optional factors)))))
counted_written (suc low) options factors written is fits =
    ap (λ (t : Term). join_term (copies (suc low) t) (copies options (optional t)))
    (is (omega (arith, fits, size-join_term (join_term factors (copies low factors)) (copies options (optional factors)), size-join_term factors (copies low factors))))

pub repeat_written : (repeat : Repeat) (factors written : Term) → (term_size factors ≤ 400 → written ≡ factors)
    → term_size (repeat_factors repeat factors) ≤ 400 → repeat_factors repeat written ≡ repeat_factors repeat factors
repeat_written Star factors written is fits = ap (repeat_factors Star) (is (omega (arith, fits, size-star factors)))
repeat_written Plus factors written is fits =
    ap (repeat_factors Plus) (is (omega (arith, fits, size-join_term factors (put (star (alternatives_of factors)) empty))))
repeat_written Question factors written is fits = ap (repeat_factors Question) (is (omega (arith, fits)))
repeat_written (Counted low high) factors written is fits = counted_written low (high - low) factors written is fits

-- a size that was judged on the sizes is that of what is written out
pub repeat_fits : (repeat : Repeat) (level : Level) (written : Term) (sizes : Sizes) → sizes ≡ size_of (with_repeat level repeat) → sizes.last ≤ 400
    → (term_size level.last ≤ 400 → written ≡ level.last) → term_size (repeat_factors repeat written) ≤ 400
repeat_fits repeat level written sizes known judged is =
    let fits : term_size (repeat_factors repeat level.last) ≤ 400 = omega (arith, ap (λ (s : Sizes). s.last) known, judged) in
    omega (arith, fits, ap term_size (repeat_written repeat level.last written is fits))

-- ---- the parts of a level, joined

pub present_written : (code : LevelValue) (level : Level) (factors : List FactorValue) → Represents code level → factors ≡ code.before.items ++ code.last.items
    → term_size (present level) ≤ 400 → term_value factors ≡ present level
present_written code level factors same joined fits =
    let size = size-join_term level.before level.last in
    ap term_value joined ∙ term_value-append code.before.items code.last.items
    ∙ ap₂ join_term (same.before (omega (arith, fits, size))) (same.last (omega (arith, fits, size)))

pub finished_written : (code : LevelValue) (level : Level) (last : Vec FactorValue) (terms : List (Vec FactorValue)) → Represents code level
    → last.items ≡ code.before.items ++ code.last.items → terms ≡ code.done.items ++ last ∷ []
    → terms_size (finished level) ≤ 400 → terms_value terms ≡ finished level
finished_written code level last terms same joined ended fits =
    let size = size-join_terms level.done (alt (present level) none) in
    ap terms_value ended ∙ terms_value-append code.done.items (last ∷ [])
    ∙ ap₂ (λ (front : Terms) (back : Term). join_terms front (alt back none)) (same.done (omega (arith, fits, size)))
    (present_written code level last.items same joined (omega (arith, fits, size)))

-- ---- the same code by another name

pub represents_at : (code same : LevelValue) (level : Level) → code ≡ same → Represents same level → Represents code level
represents_at code same level is known = subst (λ (x : LevelValue). Represents x level) (sym is) known

-- ---- the levels around, as they lie on a stack: the innermost is last

abbrev pub Stacked : List LevelValue → List Level → Type 0
Stacked codes [] = codes ≡ []
Stacked codes (level ∷ outer) = (front : List LevelValue) × (last : LevelValue) × (codes ≡ front ++ last ∷ []) × Represents last level × Stacked front outer

pub stacked_at : (codes same : List LevelValue) (outer : List Level) → codes ≡ same → Stacked same outer → Stacked codes outer
stacked_at codes same outer is known = subst (λ (x : List LevelValue). Stacked x outer) (sym is) known

-- the stack after its last level is taken
pub taken : (codes rest : List LevelValue) (last : LevelValue) (outer : List Level) → Stacked codes outer → codes ≡ rest ++ last ∷ []
    → (around : Level) × (others : List Level) × (outer ≡ around ∷ others) × Represents last around × Stacked rest others
taken codes rest last [] stack is = absurd (not_empty rest last (sym is ∙ stack))
  where
    not_empty : (rest : List LevelValue) (last : LevelValue) → rest ++ last ∷ [] ≡ [] → ⊥
    not_empty [] last is = cc
    not_empty (code ∷ rest) last is = cc
taken codes rest last (around ∷ others) (front, code, whole, same, stack) is =
    let parts = same_from_push rest front last code (sym is ∙ whole) in (
      around,
      others,
      refl,
      represents_at last code around parts.1 same,
      stacked_at rest front others parts.0 stack,
    )

pub none_stacked : (codes : List LevelValue) (outer : List Level) → Stacked codes outer → codes ≡ [] → outer ≡ []
none_stacked codes [] stack is = refl
none_stacked codes (around ∷ others) (front, code, whole, same, stack) is =
    absurd (omega (arith, ap length (sym whole ∙ is), length-append front (code ∷ [])))
