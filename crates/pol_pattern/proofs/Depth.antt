-- What is deeper than 32 parentheses is refused as that.
use Rattle.std.proofs.Common.{◌≡◌, ℕ, ◌+◌, ◌≤◌, ◌<◌, Bool, true, false, List, [], ◌∷◌, ◌++◌, length, None, Result, Ok, Err, sym, ap, subst, ◌∙◌, inl, inr, append_assoc, append-nil, arith}
use Rattle.std.specs.Prelude.{position}
use Rattle.std.proofs.lemmas.Bool.{and_parts, cases_lt, le-ltb}
use Rattle.std.proofs.lemmas.Iterator.Adapters.{position_from-zero}
use Rattle.pol_pattern.specs.declared.version.Version.{Version}
use Rattle.pol_pattern.specs.declared.fault.PatternFault.{PatternFault}
use Rattle.pol_pattern.specs.declared.fault.PatternFault.TheVariants as faults
use Rattle.pol_pattern.specs.Flat.{Terms}
use Rattle.pol_pattern.specs.Spelling.{Alternatives, Sequence, Repetition, Atom, single, or, nothing, next, once, repeated, literal, dot, bracket, parentheses, escaped, suffix_bytes, is_right_suffix, most_bytes, alternatives_bytes, sequence_bytes, repetition_bytes, atom_bytes, is_right_alternatives, is_right_sequence, is_right_repetition, is_right_atom, alternatives_depth, sequence_depth, repetition_depth, atom_depth, alternatives_terms}
use Rattle.pol_pattern.specs.Reading.{◌>>=◌, tokens_from, Level, fresh, with_bar, sized, is_unprintable, reading_by}
use Rattle.pol_pattern.proofs.TreeLevels.{repetition_level, sequence_level}
use Rattle.pol_pattern.proofs.ReadOn.{context_of, read_on, read_bar, read_open, read_too_deep}
use Rattle.pol_pattern.proofs.TreeTexts.{alternatives_text}
use Rattle.pol_pattern.proofs.Completeness.{flag_after, sequence_read, repetition_read, tree_read, no_place, sized_after}
use Rattle.pol_pattern.proofs.Steps.{ok_is, refused}
use Rattle.pol_pattern.proofs.Soundness.{reading_spells}

abbrev too_deep : Result Terms PatternFault
too_deep = Err faults.TooDeep

mutual
  alternatives_deep : (version : Version) (tree : Alternatives) (place : ℕ) (rest opened : List ℕ) (flag : Bool) (level : Level) (outer : List Level) → is_right_alternatives version tree ≡ true → length opened ≤ 32 → 32 < length opened + alternatives_depth tree
      → read_on version place 0 opened flag level outer (alternatives_bytes tree ++ rest) ≡ too_deep
  alternatives_deep version (single sequence) place rest opened flag level outer right few many = sequence_deep version sequence place rest opened flag level outer right few many
  alternatives_deep version (or sequence others) place rest opened flag level outer right few many =
      let parts = and_parts (is_right_sequence version sequence) (is_right_alternatives version others) right in
      ap (read_on version place 0 opened flag level outer) (append_assoc (sequence_bytes sequence) (124 ∷ alternatives_bytes others) rest)
      ∙ elim (cases_lt 32 (length opened + sequence_depth sequence)) [
        | inl deep ↦ sequence_deep version sequence place (124 ∷ alternatives_bytes others ++ rest) opened flag level outer parts.0 few deep
        | inr flat ↦
            sequence_read version sequence place (124 ∷ alternatives_bytes others ++ rest) opened flag level outer parts.0 flat
            ∙ read_bar version (place + length (sequence_bytes sequence)) (alternatives_bytes others ++ rest) opened (flag_after flag sequence) (sequence_level level sequence) outer
            ∙ alternatives_deep version others (place + length (sequence_bytes sequence) + 1) rest opened false (with_bar (sequence_level level sequence)) outer parts.1 few (omega arith)
      ]

  sequence_deep : (version : Version) (tree : Sequence) (place : ℕ) (rest opened : List ℕ) (flag : Bool) (level : Level) (outer : List Level) → is_right_sequence version tree ≡ true → length opened ≤ 32 → 32 < length opened + sequence_depth tree
      → read_on version place 0 opened flag level outer (sequence_bytes tree ++ rest) ≡ too_deep
  sequence_deep version nothing place rest opened flag level outer right few many = absurd (omega arith)
  sequence_deep version (next first others) place rest opened flag level outer right few many =
      let parts = and_parts (is_right_repetition version first) (is_right_sequence version others) right in
      ap (read_on version place 0 opened flag level outer) (append_assoc (repetition_bytes first) (sequence_bytes others) rest)
      ∙ elim (cases_lt 32 (length opened + repetition_depth first)) [
        | inl deep ↦ repetition_deep version first place (sequence_bytes others ++ rest) opened flag level outer parts.0 few deep
        | inr flat ↦
            repetition_read version first place (sequence_bytes others ++ rest) opened flag level outer parts.0 flat
            ∙ sequence_deep version others (place + length (repetition_bytes first)) rest opened true (repetition_level level first) outer parts.1 few (omega arith)
      ]

  repetition_deep : (version : Version) (tree : Repetition) (place : ℕ) (rest opened : List ℕ) (flag : Bool) (level : Level) (outer : List Level) → is_right_repetition version tree ≡ true → length opened ≤ 32 → 32 < length opened + repetition_depth tree
      → read_on version place 0 opened flag level outer (repetition_bytes tree ++ rest) ≡ too_deep
  repetition_deep version (once atom) place rest opened flag level outer right few many = atom_deep version atom place rest opened flag level outer right few many
  repetition_deep version (repeated inner suffix) place rest opened flag level outer right few many =
      let parts = and_parts (is_right_repetition version inner) (is_right_suffix version suffix) right in
      ap (read_on version place 0 opened flag level outer) (append_assoc (repetition_bytes inner) (suffix_bytes suffix) rest)
      ∙ repetition_deep version inner place (suffix_bytes suffix ++ rest) opened flag level outer parts.0 few many

  atom_deep : (version : Version) (tree : Atom) (place : ℕ) (rest opened : List ℕ) (flag : Bool) (level : Level) (outer : List Level) → is_right_atom version tree ≡ true → length opened ≤ 32 → 32 < length opened + atom_depth tree
      → read_on version place 0 opened flag level outer (atom_bytes tree ++ rest) ≡ too_deep
  atom_deep version (literal symbol) place rest opened flag level outer right few many = absurd (omega arith)
  atom_deep version dot place rest opened flag level outer right few many = absurd (omega arith)
  atom_deep version (bracket negated first others) place rest opened flag level outer right few many = absurd (omega arith)
  atom_deep version (parentheses inner) place rest opened flag level outer right few many =
      ap (λ (bytes : List ℕ). read_on version place 0 opened flag level outer (40 ∷ bytes)) (append_assoc (alternatives_bytes inner) (41 ∷ []) rest)
      ∙ elim (cases_lt (length opened) 32) [
        | inl room ↦
            read_open version place (alternatives_bytes inner ++ 41 ∷ rest) opened flag level outer room
            ∙ alternatives_deep version inner (place + 1) (41 ∷ rest) (place ∷ opened) false fresh (level ∷ outer) right room (omega arith)
        | inr full ↦ read_too_deep version place (alternatives_bytes inner ++ 41 ∷ rest) opened flag level outer full
      ]
  atom_deep version (escaped symbol) place rest opened flag level outer right few many = absurd (omega arith)

-- ---- patterns

tree_deep : (version : Version) (tree : Alternatives) → is_right_alternatives version tree ≡ true → 32 < alternatives_depth tree → read_on version 0 0 [] false fresh [] (alternatives_bytes tree) ≡ too_deep
tree_deep version tree right many =
    ap (read_on version 0 0 [] false fresh []) (sym (append-nil (alternatives_bytes tree)))
    ∙ alternatives_deep version tree 0 [] [] false fresh [] right (omega arith) (omega arith)

-- what is spelled by a tree of more than 32 parentheses at once is too deep
pub deep_refused : (version : Version) (tree : Alternatives) → is_right_alternatives version tree ≡ true → length (alternatives_bytes tree) ≤ most_bytes version → 32 < alternatives_depth tree → reading_by version (alternatives_bytes tree) ≡ Err faults.TooDeep
unfolding reading_by
deep_refused version tree right short many =
    let bytes : List ℕ = alternatives_bytes tree in
    let printable : position is_unprintable bytes ≡ None = position_from-zero is_unprintable bytes ∙ no_place 0 bytes (alternatives_text version tree right) in
    rw (le-ltb (most_bytes version) (length bytes) short, printable)
    (sized_after (tokens_from version 0 0 (context_of [] false) bytes) ∙ ap (λ (r : Result Terms PatternFault). r >>= sized) (tree_deep version tree right many))

-- a tree whose bytes are a pattern gives that pattern's flat form, and isn't too deep
pub tree_spelled : (version : Version) (bytes : List ℕ) (flat : Terms) (tree : Alternatives) → reading_by version bytes ≡ Ok flat → is_right_alternatives version tree ≡ true → alternatives_bytes tree ≡ bytes
    → (alternatives_terms tree ≡ flat) × (alternatives_depth tree ≤ 32)
tree_spelled version bytes flat tree read right same =
    let spelled = reading_spells version bytes flat read in
    let short : length (alternatives_bytes tree) ≤ most_bytes version = subst (λ (b : List ℕ). length b ≤ most_bytes version) (sym same) spelled.4 in
    let few : alternatives_depth tree ≤ 32 =
    elim (cases_lt 32 (alternatives_depth tree)) [
      | inl many ↦ absurd (refused faults.TooDeep flat (sym (deep_refused version tree right short many) ∙ ap (reading_by version) same ∙ read))
      | inr few ↦ few
    ] in (
      ok_is (alternatives_terms tree) (alternatives_terms spelled.0)
          (sym (tree_read version tree right few) ∙ ap (read_on version 0 0 [] false fresh []) (same ∙ sym spelled.2) ∙ tree_read version spelled.0 spelled.1 spelled.5) ∙ spelled.3,
      few,
    )
