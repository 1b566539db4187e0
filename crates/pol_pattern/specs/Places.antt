-- What a fault says of the bytes: what stands at its place, and why no pattern has it there
-- (docs/POLICY.md, "Patterns").
use Rattle.std.specs.Prelude.{◌≡◌, ◌<◌, ℕ, ◌+◌, ◌-◌, ◌==◌, Bool, ◌&&◌, ◌||◌, IsTrue, List}
use Rattle.std.specs.Prelude.{◌++◌, ◌⊎◌, length, take, drop, slice_index}
use Rattle.basics.specs.Symbol.{is_text}
use Rattle.pol_pattern.specs.Flat.{terms_size}
use Rattle.pol_pattern.specs.Spelling.{Suffix, Item, Alternatives, bracket, suffix_bytes}
use Rattle.pol_pattern.specs.Spelling.{atom_bytes, alternatives_bytes, most_bytes, has_counts}
use Rattle.pol_pattern.specs.Spelling.{is_right_suffix, is_right_atom, is_right_alternatives}
use Rattle.pol_pattern.specs.Spelling.{alternatives_terms}
use Rattle.pol_pattern.specs.Reading.{is_unprintable}
use Rattle.pol_pattern.specs.declared.version.Version.{Version}
use Rattle.pol_pattern.specs.declared.fault.PatternFault.{PatternFault}
use Rattle.pol_pattern.specs.declared.fault.PatternFault.TheVariants.{TooLong, Unprintable}
use Rattle.pol_pattern.specs.declared.fault.PatternFault.TheVariants.{Unclosed, Unopened}
use Rattle.pol_pattern.specs.declared.fault.PatternFault.TheVariants.{NothingToRepeat, BadClass}
use Rattle.pol_pattern.specs.declared.fault.PatternFault.TheVariants.{BadEscape, TooDeep, TooLarge}
use Rattle.pol_pattern.specs.declared.fault.PatternFault.TheVariants.{Memory, BadRepeat}

-- the place is within the bytes, and a byte for which the test is true stands there
abbrev pub StandsAt : (ℕ → Bool) → List ℕ → ℕ → Type 0
StandsAt test bytes place = (place < length bytes) × IsTrue (test (slice_index bytes place))

-- `*`, `+` or `?`, and in version 2 also `{`
abbrev pub repeats : Version → ℕ → Bool
repeats version byte =
    (byte == 42 || (byte == 43 || byte == 63)) || (has_counts version && byte == 123)

-- the pattern begins at the place, or a `(` or a `|` stands directly before it
abbrev pub BeginsSequence : List ℕ → ℕ → Type 0
BeginsSequence bytes place =
    (place ≡ 0) ⊎ StandsAt (λ byte. byte == 40 || byte == 124) bytes (place - 1)

-- the bytes begin with no class
abbrev pub BeginsNoClass : Version → List ℕ → Type 0
BeginsNoClass version bytes =
    (negated : Bool) (first : Item) (others : List Item) (rest : List ℕ)
    → IsTrue (is_right_atom version (bracket negated first others))
    → bytes ≡ atom_bytes (bracket negated first others) ++ rest → ⊥

-- the bytes begin with no suffix
abbrev pub BeginsNoSuffix : Version → List ℕ → Type 0
BeginsNoSuffix version bytes =
    (suffix : Suffix) (rest : List ℕ) → IsTrue (is_right_suffix version suffix)
    → bytes ≡ suffix_bytes suffix ++ rest → ⊥

-- the bytes are alternatives
abbrev pub AreAlternatives : Version → List ℕ → Type 0
AreAlternatives version bytes =
    (tree : Alternatives) × IsTrue (is_right_alternatives version tree)
    × (alternatives_bytes tree ≡ bytes)

-- the bytes are alternatives of more than 400 factors
abbrev pub AreTooLarge : Version → List ℕ → Type 0
AreTooLarge version bytes =
    (tree : Alternatives) × IsTrue (is_right_alternatives version tree)
    × (alternatives_bytes tree ≡ bytes) × (400 < terms_size (alternatives_terms tree))

-- what the fault says of these bytes is so: a place is within them, and such a byte stands there
abbrev pub FaultOf : Version → List ℕ → PatternFault → Type 0
FaultOf version bytes TooLong = most_bytes version < length bytes
-- no symbol, and only symbols before it
FaultOf version bytes (Unprintable place) =
    StandsAt is_unprintable bytes place × IsTrue (is_text (take place bytes))
-- a `(`, and what follows would be closed by a `)` at the end
FaultOf version bytes (Unclosed place) =
    StandsAt (λ byte. byte == 40) bytes place × AreAlternatives version (drop (place + 1) bytes)
-- a `)`, and what stands before it is whole without one
FaultOf version bytes (Unopened place) =
    StandsAt (λ byte. byte == 41) bytes place × AreAlternatives version (take place bytes)
-- what repeats, with nothing before it in its sequence
FaultOf version bytes (NothingToRepeat place) =
    StandsAt (repeats version) bytes place × BeginsSequence bytes place
-- a `[` that begins no class
FaultOf version bytes (BadClass place) =
    StandsAt (λ byte. byte == 91) bytes place × BeginsNoClass version (drop place bytes)
-- a `\`, and nothing after it
FaultOf version bytes (BadEscape place) =
    StandsAt (λ byte. byte == 92) bytes place × (place + 1 ≡ length bytes)
FaultOf version bytes TooDeep = Unit {0}
FaultOf version bytes TooLarge = AreTooLarge version bytes
FaultOf version bytes Memory = Unit {0}
-- only in version 2: a `{` that begins no count, or a `}`
FaultOf version bytes (BadRepeat place) =
    IsTrue (has_counts version)
    × (StandsAt (λ byte. byte == 123) bytes place × BeginsNoSuffix version (drop place bytes)
    ⊎ StandsAt (λ byte. byte == 125) bytes place)
