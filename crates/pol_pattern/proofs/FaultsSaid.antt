-- What the faults of a reading say of the bytes is so.
use Rattle.std.proofs.Common.{◌≡◌, ℕ, suc, ◌+◌, ◌<◌, true, nat_lt, List, [], ◌∷◌, length, take, Option, Some, None, Ok, Err, refl, sym, ap, subst, ◌∙◌, inl, inr, arith}
use Rattle.std.specs.Prelude.{position}
use Rattle.std.specs.Option.{option_map_or}
use Rattle.std.specs.List.{position_from}
use Rattle.std.proofs.lemmas.Bool.{and_from, not-false, ltb-true}
use Rattle.std.proofs.lemmas.Iterator.Adapters.{position_from-zero}
use Rattle.basics.specs.Symbol.{is_symbol, is_text}
use Rattle.basics.specs.Memory.{Except}
use Rattle.pol_pattern.specs.Memory.{is_memory}
use Rattle.pol_pattern.specs.declared.version.Version.{Version}
use Rattle.pol_pattern.specs.declared.token.Token.{Token}
use Rattle.pol_pattern.specs.declared.fault.PatternFault.{PatternFault}
use Rattle.pol_pattern.specs.declared.fault.PatternFault.TheVariants as faults
use Rattle.pol_pattern.specs.Flat.{Terms, terms_size}
use Rattle.pol_pattern.specs.Spelling.{most_bytes}
use Rattle.pol_pattern.specs.Reading.{◌>>=◌, outermost, tokens_from, fresh, build, sized, is_unprintable, reading_by}
use Rattle.pol_pattern.specs.Places.{StandsAt, FaultOf}
use Rattle.pol_pattern.proofs.Steps.{chosen, done, refused}
use Rattle.pol_pattern.proofs.Soundness.{printable, tokens_tree}
use Rattle.pol_pattern.proofs.Places.{failing, same_fault, bind_err, early_fault, Known, tokens_fault}
use Rattle.pol_pattern.proofs.Unclosed.{unclosed}
use Rattle.pol_pattern.proofs.Unopened.{unopened}

-- the first byte that is no symbol
first_unprintable : (i : ℕ) (bytes : List ℕ) (place : ℕ) → position_from is_unprintable i bytes ≡ Some place
    → (offset : ℕ) × (place ≡ i + offset) × StandsAt is_unprintable bytes offset × (is_text (take offset bytes) ≡ true)
first_unprintable i [] place e = absurd cc
first_unprintable i (byte ∷ rest) place e =
    elim (chosen (is_unprintable byte) (Some i) _ (Some place) e) [
      | inl here ↦ let same : i ≡ place = cc in (0, omega (arith, same), (omega arith, here.0), refl)
      | inr others ↦
          let later = first_unprintable (i + 1) rest place others.1 in (
            suc later.0,
            omega (arith, later.1),
            (omega (arith, later.2.0), later.2.1),
            and_from (is_symbol byte) (is_text (take later.0 rest)) (not-false (is_symbol byte) others.0) later.3,
          )
    ]

-- at the first place nothing is open
known_first : (bytes : List ℕ) → Known bytes 0 0 outermost
known_first bytes = record { opened = tt; begins = λ none. (refl, inl refl) }

tokens_said : (version : Version) (bytes : List ℕ) (fault : PatternFault) → is_text bytes ≡ true → tokens_from version 0 0 outermost bytes ≡ Err fault → FaultOf version bytes fault
tokens_said version bytes fault text e =
    elim (tokens_fault version bytes 0 0 outermost bytes fault refl text (known_first bytes) e) [
      | inl early ↦ early_fault version bytes fault (λ place is. unopened version bytes place text (e ∙ ap (λ (f : PatternFault). failing f) is)) early
      | inr (last, is, stands) ↦
          subst (FaultOf version bytes) (sym is)
          (stands, unclosed version bytes 0 0 outermost bytes last refl text (known_first bytes) tt (e ∙ ap (λ (f : PatternFault). failing f) is))
    ]

sized_said : (version : Version) (bytes : List ℕ) (found : List Token) (fault : PatternFault) → is_text bytes ≡ true → tokens_from version 0 0 outermost bytes ≡ Ok found → sized (build fresh [] found) ≡ Err fault
    → FaultOf version bytes fault
sized_said version bytes found fault text read e =
    elim (chosen (nat_lt 400 (terms_size (build fresh [] found))) (Err faults.TooLarge) (done (build fresh [] found)) (Err fault) e) [
      | inl large ↦
          let of = tokens_tree version bytes 0 found text read in
          subst (FaultOf version bytes) (same_fault {A = Terms} faults.TooLarge fault large.1)
          (of.tree, of.right, of.spelled, subst (λ (f : Terms). 400 < terms_size f) (sym of.flat) (ltb-true 400 (terms_size (build fresh [] found)) large.0))
      | inr small ↦ absurd (refused fault _ (sym small.1))
    ]

pub reading_said : (version : Version) (bytes : List ℕ) (fault : PatternFault) → reading_by version bytes ≡ Err fault → FaultOf version bytes fault
unfolding reading_by
reading_said version bytes fault e =
    elim (chosen (nat_lt (most_bytes version) (length bytes)) (Err faults.TooLong) _ (Err fault) e) [
      | inl long ↦ subst (FaultOf version bytes) (same_fault {A = Terms} faults.TooLong fault long.1) (ltb-true (most_bytes version) (length bytes) long.0)
      | inr short ↦ by (position is_unprintable bytes) refl short.1
    ]
  where
    by : (place : Option ℕ) → position is_unprintable bytes ≡ place
        → option_map_or (λ at. Err (faults.Unprintable at)) place (tokens_from version 0 0 outermost bytes >>= λ tokens. sized (build fresh [] tokens)) ≡ Err fault → FaultOf version bytes fault
    by (Some place) is e =
        let first = first_unprintable 0 bytes place (sym (position_from-zero is_unprintable bytes) ∙ is) in
        let same : first.0 ≡ place = omega (arith, first.1) in
        subst (FaultOf version bytes) (same_fault {A = Terms} (faults.Unprintable place) fault e)
        (subst (λ (p : ℕ). StandsAt is_unprintable bytes p × (is_text (take p bytes) ≡ true)) same (first.2, first.3))
    by None is e =
        let text = printable 0 bytes (sym (position_from-zero is_unprintable bytes) ∙ is) in
        elim (bind_err (tokens_from version 0 0 outermost bytes) (λ tokens. sized (build fresh [] tokens)) fault e) [
          | inl stopped ↦ tokens_said version bytes fault text stopped
          | inr a ↦ sized_said version bytes a.0 fault text a.1 a.2
        ]

-- also where memory may have run out
pub fault_said : (version : Version) (bytes : List ℕ) (fault : PatternFault) → Except (is_memory fault) (reading_by version bytes ≡ Err fault) → FaultOf version bytes fault
fault_said version bytes faults.TooLong e = reading_said version bytes _ e
fault_said version bytes (faults.Unprintable place) e = reading_said version bytes _ e
fault_said version bytes (faults.Unclosed place) e = reading_said version bytes _ e
fault_said version bytes (faults.Unopened place) e = reading_said version bytes _ e
fault_said version bytes (faults.NothingToRepeat place) e = reading_said version bytes _ e
fault_said version bytes (faults.BadClass place) e = reading_said version bytes _ e
fault_said version bytes (faults.BadEscape place) e = reading_said version bytes _ e
fault_said version bytes faults.TooDeep e = tt
fault_said version bytes faults.TooLarge e = reading_said version bytes _ e
fault_said version bytes faults.Memory e = tt
fault_said version bytes (faults.BadRepeat place) e = reading_said version bytes _ e
