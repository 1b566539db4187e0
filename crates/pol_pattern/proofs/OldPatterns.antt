-- What the reading of a source of version 1 says of its new source.
use Rattle.std.proofs.Common.{◌≡◌, ℕ, List, Result, Ok, Err, sym, ap, ◌∙◌}
use Rattle.basics.specs.Memory.{Except}
use Rattle.pol_pattern.specs.declared.version.Version.TheVariants.{One, Two}
use Rattle.pol_pattern.specs.declared.fault.PatternFault.{PatternFault}
use Rattle.pol_pattern.specs.Flat.{Terms}
use Rattle.pol_pattern.specs.Memory.{is_memory}
use Rattle.pol_pattern.specs.Spelling.{SpellsBy, Spells}
use Rattle.pol_pattern.specs.Reading.{◌>>=◌, reading_by, reading, pattern_of, pattern_of_old}
use Rattle.pol_pattern.specs.Upgrading.{upgraded}
use Rattle.pol_pattern.proofs.Faults.{fails_after, except_map}
use Rattle.pol_pattern.proofs.Steps.{done, refused}
use Rattle.pol_pattern.proofs.Completeness.{spells_reads}
use Rattle.pol_pattern.proofs.Soundness.{reading_spells}
use Rattle.pol_pattern.proofs.Laws.{reading_pattern}
use Rattle.pol_pattern.proofs.Upgraded.{upgrade_spelled}

-- the new source is read as the same pattern
pub old_reads : (bytes : List ℕ) (flat : Terms) → reading_by One bytes ≡ Ok flat → reading (upgraded bytes) ≡ Ok flat
old_reads bytes flat e = spells_reads Two (upgraded bytes) flat (upgrade_spelled bytes flat (reading_spells One bytes flat e))

pub old_is : (bytes : List ℕ) (flat : Terms) → reading_by One bytes ≡ Ok flat → pattern_of_old bytes ≡ Ok (upgraded bytes)
unfolding pattern_of_old
old_is bytes flat e =
    ap (λ (r : Result Terms PatternFault). r >>= λ flat. pattern_of (upgraded bytes)) e ∙ reading_pattern (upgraded bytes) flat (old_reads bytes flat e)

pub old_fails : (fault : PatternFault) (bytes : List ℕ) → Except (is_memory fault) (reading_by One bytes ≡ Err fault) → Except (is_memory fault) (pattern_of_old bytes ≡ Err fault)
unfolding pattern_of_old
old_fails fault bytes is = fails_after fault (reading_by One bytes) (λ flat. pattern_of (upgraded bytes)) is

-- what version 1 spells is refused for no fault but memory
pub old_refused_for_memory : (fault : PatternFault) (bytes : List ℕ) (flat : Terms) → SpellsBy One bytes flat → Except (is_memory fault) (reading_by One bytes ≡ Err fault)
    → Except (is_memory fault) (done (upgraded bytes) ≡ Err fault)
old_refused_for_memory fault bytes flat spelled =
    except_map (is_memory fault) (λ e. absurd (refused fault flat (sym e ∙ spells_reads One bytes flat spelled)))

pub old_found : (bytes : List ℕ) (flat : Terms) → reading_by One bytes ≡ Ok flat → (own : Terms) × SpellsBy One bytes own × Spells (upgraded bytes) own
old_found bytes flat e = let spelled = reading_spells One bytes flat e in (flat, spelled, upgrade_spelled bytes flat spelled)
