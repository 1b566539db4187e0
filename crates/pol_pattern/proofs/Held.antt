-- What a pattern holds, by its flat form and by its tree.
use Rattle.std.proofs.Common.{◌≡◌, ℕ, true, List, [], ◌++◌, Result, Ok, Err, IsOk, refl, sym, ap, subst, ◌∙◌, inl, inr, append-nil, true≢false}
use Rattle.std.proofs.lemmas.Bool.{and_from}
use Rattle.pol_pattern.specs.declared.fault.PatternFault.{PatternFault}
use Rattle.pol_pattern.specs.declared.version.Version.{Version}
use Rattle.pol_pattern.specs.declared.version.Version.TheVariants.{Two}
use Rattle.pol_pattern.specs.Flat.{Factor, Term, empty, put, Terms, none, alt}
use Rattle.pol_pattern.specs.Sets.{InFactor, InTerms}
use Rattle.pol_pattern.specs.Spelling.{Alternatives, Repetition, single, nothing, next, alternatives_bytes, repetition_bytes, is_right_alternatives, is_right_repetition, alternatives_terms, repetition_factors, SpellsBy, Spells, Holds}
use Rattle.pol_pattern.specs.Reading.{reading}
use Rattle.pol_pattern.specs.Languages.{IsPattern}
use Rattle.pol_pattern.proofs.TreeLevels.{join_term-empty}
use Rattle.pol_pattern.proofs.Steps.{ok_is, refused}
use Rattle.pol_pattern.proofs.Completeness.{spells_reads}
use Rattle.pol_pattern.proofs.Soundness.{reading_spells}
use Rattle.pol_pattern.proofs.Depth.{tree_spelled}

-- a source spells one pattern at most
pub spells_one : (version : Version) (source : List ℕ) (a b : Terms) → SpellsBy version source a → SpellsBy version source b → a ≡ b
spells_one version source a b first second = ok_is a b (sym (spells_reads version source a first) ∙ spells_reads version source b second)

-- what is refused no tree spells
pub refused_unspelled : (source : List ℕ) (fault : PatternFault) (flat : Terms) → reading source ≡ Err fault → Spells source flat → ⊥
refused_unspelled source fault flat e spelled = refused fault flat (sym e ∙ spells_reads Two source flat spelled)

-- ---- what a pattern holds, by its flat form

ok_value : {A : Type 0} (r : Result A PatternFault) → IsOk r → (x : A) × (r ≡ Ok x)
ok_value (Ok x) h = (x, refl)
ok_value (Err fault) h = absurd (true≢false (sym h))

pub holds_in : (source text : List ℕ) (flat : Terms) → reading source ≡ Ok flat → Holds source text → InTerms flat text
holds_in source text flat read (own, spelled, held) =
    subst (λ (f : Terms). InTerms f text) (ok_is own flat (sym (spells_reads Two source own spelled) ∙ read)) held

pub in_holds : (source text : List ℕ) (flat : Terms) → reading source ≡ Ok flat → InTerms flat text → Holds source text
in_holds source text flat read held = (flat, reading_spells Two source flat read, held)

-- a pattern with its tree
pub record Pattern (source : List ℕ) : Type 0 where
  pub tree : Alternatives
  pub right : is_right_alternatives Two tree ≡ true
  pub spelled : alternatives_bytes tree ≡ source
  pub read : reading source ≡ Ok (alternatives_terms tree)

pub pattern_tree : (source : List ℕ) → IsPattern source → Pattern source
pattern_tree source h =
    let a = ok_value (reading source) h in
    let s = reading_spells Two source a.0 a.1 in
    record { tree = s.0; right = s.1; spelled = s.2; read = a.1 ∙ ap (λ (f : Terms). Ok f) (sym s.3) }

-- a pattern whose tree is known
pub pattern_by : (source : List ℕ) (tree : Alternatives) → IsPattern source → is_right_alternatives Two tree ≡ true → alternatives_bytes tree ≡ source → reading source ≡ Ok (alternatives_terms tree)
pattern_by source tree h right same =
    let a = ok_value (reading source) h in
    a.1 ∙ ap (λ (f : Terms). Ok f) (sym (tree_spelled Two source a.0 tree a.1 right same).0)

-- ---- patterns of one factor

-- one repetition, alone
abbrev pub alone : Repetition → Alternatives
alone first = single (next first nothing)

pub alone_read : (source : List ℕ) (first : Repetition) → IsPattern source → is_right_repetition Two first ≡ true → repetition_bytes first ≡ source → reading source ≡ Ok (alt (repetition_factors first) none)
alone_read source first h right same =
    pattern_by source (alone first) h (and_from (is_right_repetition Two first) true right refl) (append-nil (repetition_bytes first) ∙ same)
    ∙ ap (λ (t : Term). Ok (alt t none)) (join_term-empty (repetition_factors first))

-- what one term of one factor holds
pub one_in : (factor : Factor) (text : List ℕ) → InTerms (alt (put factor empty) none) text → InFactor factor text
one_in factor text (inl (front, back, whole, h, end)) =
    subst (InFactor factor) (sym (whole ∙ ap (λ (b : List ℕ). front ++ b) end ∙ append-nil front)) h
one_in factor text (inr h) = absurd h

pub in_one : (factor : Factor) (text : List ℕ) → InFactor factor text → InTerms (alt (put factor empty) none) text
in_one factor text h = inl (text, [], sym (append-nil text), h, refl)
