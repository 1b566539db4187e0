-- What the reading of a source says of its pattern, as the contracts cite it.
use Rattle.std.proofs.Common.{◌≡◌, ◌↔◌, ℕ, true, false, List, Result, Ok, Err, sym, ap, subst, refl, ◌∙◌}
use Rattle.std.proofs.lemmas.Bool.{false≢true}
use Rattle.pol_pattern.specs.declared.fault.PatternFault.{PatternFault}
use Rattle.pol_pattern.specs.declared.version.Version.TheVariants.{Two}
use Rattle.pol_pattern.specs.Flat.{Terms}
use Rattle.pol_pattern.specs.Sets.{InTerms}
use Rattle.pol_pattern.specs.Spelling.{Spells, Holds}
use Rattle.basics.specs.Memory.{Except}
use Rattle.pol_pattern.specs.Memory.{is_memory}
use Rattle.pol_pattern.specs.Reading.{◌>>=◌, reading, pattern_of}
use Rattle.pol_pattern.specs.Matching.{matches_terms, matches_reading, matches}
use Rattle.pol_pattern.proofs.Faults.{except_map}
use Rattle.pol_pattern.proofs.Steps.{bind_ok, done, ok_is, refused}
use Rattle.pol_pattern.proofs.Completeness.{spells_reads}
use Rattle.pol_pattern.proofs.Soundness.{reading_spells}
use Rattle.pol_pattern.proofs.Held.{holds_in, in_holds, refused_unspelled}

-- ---- patterns as their sources

pub reading_pattern : (bytes : List ℕ) (flat : Terms) → reading bytes ≡ Ok flat → pattern_of bytes ≡ Ok bytes
unfolding pattern_of
reading_pattern bytes flat e = ap (λ (r : Result Terms PatternFault). r >>= λ flat. Ok bytes) e

pub reading_fault : (bytes : List ℕ) (fault : PatternFault) → reading bytes ≡ Err fault → pattern_of bytes ≡ Err fault
unfolding pattern_of
reading_fault bytes fault e = ap (λ (r : Result Terms PatternFault). r >>= λ flat. Ok bytes) e

-- what is spelled is a pattern
pub spells_pattern : (bytes : List ℕ) (flat : Terms) → Spells bytes flat → pattern_of bytes ≡ Ok bytes
spells_pattern bytes flat spelled = reading_pattern bytes flat (spells_reads Two bytes flat spelled)

-- a pattern is what its source spells
pub pattern_spells : (bytes source : List ℕ) → pattern_of bytes ≡ Ok source → (source ≡ bytes) × ((flat : Terms) × Spells source flat)
unfolding pattern_of
pattern_spells bytes source e =
    let a = bind_ok (reading bytes) (λ flat. done bytes) source e in
    let same : bytes ≡ source = ok_is bytes source a.2 in
    (sym same, subst (λ (s : List ℕ). (flat : Terms) × Spells s flat) same (a.0, reading_spells Two bytes a.0 a.1))

-- ---- faults

-- what is spelled is refused for no fault but memory
pub refused_for_memory : (fault : PatternFault) (bytes : List ℕ) (flat : Terms) → Spells bytes flat → Except (is_memory fault) (reading bytes ≡ Err fault) → Except (is_memory fault) (done bytes ≡ Err fault)
refused_for_memory fault bytes flat spelled =
    except_map (is_memory fault) (λ e. absurd (refused fault flat (sym e ∙ spells_reads Two bytes flat spelled)))

-- ---- the test of a text, once it is known for flat forms

-- the test of a flat form is that of its set
abbrev pub TestsTerms : Type 0
TestsTerms = (flat : Terms) (text : List ℕ) → (matches_terms flat text ≡ true) ↔ InTerms flat text

pub matches_is : (source : List ℕ) (flat : Terms) (text : List ℕ) → reading source ≡ Ok flat → matches source text ≡ matches_terms flat text
unfolding matches
matches_is source flat text e = ap (λ (r : Result Terms PatternFault). matches_reading r text) e

refused_test : (source : List ℕ) (fault : PatternFault) (text : List ℕ) → reading source ≡ Err fault → matches source text ≡ false
unfolding matches
refused_test source fault text e = ap (λ (r : Result Terms PatternFault). matches_reading r text) e

-- the test on the flat form that was read says whether the pattern holds the text
pub holds_text : TestsTerms → (source : List ℕ) (flat : Terms) (text : List ℕ) → reading source ≡ Ok flat → (matches_terms flat text ≡ true) ↔ Holds source text
holds_text tests source flat text e = (
  λ passes. in_holds source text flat e ((tests flat text).0 passes),
  λ held. (tests flat text).1 (holds_in source text flat e held),
)

-- the test is that of the set, also where the source spells no pattern
pub test_is_set : TestsTerms → (source text : List ℕ) → (matches source text ≡ true) ↔ Holds source text
test_is_set tests source text = by (reading source) refl
  where
    by : (r : Result Terms PatternFault) → reading source ≡ r → (matches source text ≡ true) ↔ Holds source text
    by (Ok flat) e = rw (matches_is source flat text e) (holds_text tests source flat text e)
    by (Err fault) e = (
      λ passes. absurd (false≢true (sym (refused_test source fault text e) ∙ passes)),
      λ held. absurd (refused_unspelled source fault held.0 e held.1),
    )
