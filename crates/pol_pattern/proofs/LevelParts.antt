-- What tokens make of the levels that are open: the rest of each is repeats of the atom before, and
-- alternatives of which the first goes on with the present sequence.
use Rattle.std.proofs.Common.{◌≡◌, ℕ, ◌+◌, ◌≤◌, max, Bool, true, ◌&&◌, List, [], ◌∷◌, ◌++◌, length, refl, ap, ◌∙◌, append_assoc, append-nil, arith}
use Rattle.std.specs.List.{list_all}
use Rattle.std.proofs.lemmas.Bool.{and_parts, and_from}
use Rattle.pol_pattern.specs.declared.version.Version.{Version}
use Rattle.pol_pattern.specs.Flat.{group, empty, put, Terms}
use Rattle.pol_pattern.specs.Spelling.{Suffix, suffix_bytes, is_right_suffix, suffix_repeat, Alternatives, Repetition, Atom, single, or, next, once, repeated, alternatives_bytes, sequence_bytes, repetition_bytes, atom_bytes, is_right_alternatives, is_right_sequence, is_right_repetition, is_right_atom, alternatives_depth, repetition_depth, atom_depth, atom_factors}
use Rattle.pol_pattern.specs.Reading.{Level, with_atom, with_repeat, finished}
use Rattle.pol_pattern.proofs.TreeLevels.{repetition_level, alternatives_level}

-- ---- trees with a repetition put in front

abbrev pub repeated_by : Repetition → List Suffix → Repetition
repeated_by first [] = first
repeated_by first (suffix ∷ suffixes) = repeated_by (repeated first suffix) suffixes

abbrev pub put_first : Repetition → Alternatives → Alternatives
put_first first (single sequence) = single (next first sequence)
put_first first (or sequence others) = or (next first sequence) others

abbrev pub repeats_level : Level → List Suffix → Level
repeats_level level [] = level
repeats_level level (suffix ∷ suffixes) = repeats_level (with_repeat level (suffix_repeat suffix)) suffixes

abbrev pub suffixes_bytes : List Suffix → List ℕ
suffixes_bytes [] = []
suffixes_bytes (suffix ∷ suffixes) = suffix_bytes suffix ++ suffixes_bytes suffixes

abbrev pub are_right_suffixes : Version → List Suffix → Bool
are_right_suffixes version = list_all (is_right_suffix version)

repeated_bytes : (first : Repetition) (suffixes : List Suffix) → repetition_bytes (repeated_by first suffixes) ≡ repetition_bytes first ++ suffixes_bytes suffixes
repeated_bytes first [] = simp append-nil
repeated_bytes first (suffix ∷ suffixes) =
    repeated_bytes (repeated first suffix) suffixes ∙ append_assoc (repetition_bytes first) (suffix_bytes suffix) (suffixes_bytes suffixes)

repeated_level : (level : Level) (first : Repetition) (suffixes : List Suffix) → repetition_level level (repeated_by first suffixes) ≡ repeats_level (repetition_level level first) suffixes
repeated_level level first [] = refl
repeated_level level first (suffix ∷ suffixes) = repeated_level level (repeated first suffix) suffixes

repeated_right : (version : Version) (first : Repetition) (suffixes : List Suffix) → is_right_repetition version first ≡ true → are_right_suffixes version suffixes ≡ true
    → is_right_repetition version (repeated_by first suffixes) ≡ true
repeated_right version first [] right all = right
repeated_right version first (suffix ∷ suffixes) right all =
    let parts = and_parts (is_right_suffix version suffix) (are_right_suffixes version suffixes) all in
    repeated_right version (repeated first suffix) suffixes (and_from (is_right_repetition version first) (is_right_suffix version suffix) right parts.0) parts.1

repeated_depth : (first : Repetition) (suffixes : List Suffix) → repetition_depth (repeated_by first suffixes) ≡ repetition_depth first
repeated_depth first [] = refl
repeated_depth first (suffix ∷ suffixes) = repeated_depth (repeated first suffix) suffixes

put_bytes : (first : Repetition) (tree : Alternatives) → alternatives_bytes (put_first first tree) ≡ repetition_bytes first ++ alternatives_bytes tree
put_bytes first (single sequence) = refl
put_bytes first (or sequence others) = append_assoc (repetition_bytes first) (sequence_bytes sequence) (124 ∷ alternatives_bytes others)

put_level : (level : Level) (first : Repetition) (tree : Alternatives) → alternatives_level level (put_first first tree) ≡ alternatives_level (repetition_level level first) tree
put_level level first (single sequence) = refl
put_level level first (or sequence others) = refl

put_right : (version : Version) (first : Repetition) (tree : Alternatives) → is_right_repetition version first ≡ true → is_right_alternatives version tree ≡ true → is_right_alternatives version (put_first first tree) ≡ true
put_right version first (single sequence) right others = and_from (is_right_repetition version first) (is_right_sequence version sequence) right others
put_right version first (or sequence more) right others =
    let parts = and_parts (is_right_sequence version sequence) (is_right_alternatives version more) others in
    and_from (is_right_repetition version first && is_right_sequence version sequence) (is_right_alternatives version more) (and_from (is_right_repetition version first) (is_right_sequence version sequence) right parts.0) parts.1

put_depth : (first : Repetition) (tree : Alternatives) → alternatives_depth (put_first first tree) ≡ max (repetition_depth first) (alternatives_depth tree)
put_depth first (single sequence) = refl
put_depth first (or sequence others) = omega arith

-- ---- the rest of each level

pub record Part : Type 0 where
  pub repeats : List Suffix
  pub tree : Alternatives

abbrev pub part_bytes : Part → List ℕ
part_bytes part = suffixes_bytes part.repeats ++ alternatives_bytes part.tree

abbrev pub part_level : Level → Part → Level
part_level level part = alternatives_level (repeats_level level part.repeats) part.tree

-- a part that begins with an atom
abbrev pub atom_part : Atom → Part → Part
atom_part atom part = record { repeats = []; tree = put_first (repeated_by (once atom) part.repeats) part.tree }

pub atom_part_bytes : (atom : Atom) (part : Part) → part_bytes (atom_part atom part) ≡ atom_bytes atom ++ part_bytes part
atom_part_bytes atom part =
    put_bytes (repeated_by (once atom) part.repeats) part.tree
    ∙ ap (λ (b : List ℕ). b ++ alternatives_bytes part.tree) (repeated_bytes (once atom) part.repeats)
    ∙ append_assoc (atom_bytes atom) (suffixes_bytes part.repeats) (alternatives_bytes part.tree)

pub atom_part_level : (level : Level) (atom : Atom) (part : Part) → part_level level (atom_part atom part) ≡ part_level (with_atom level (atom_factors atom)) part
atom_part_level level atom part =
    put_level level (repeated_by (once atom) part.repeats) part.tree
    ∙ ap (λ (l : Level). alternatives_level l part.tree) (repeated_level level (once atom) part.repeats)

-- the parts after the open parentheses, the innermost first
abbrev pub parts_bytes : List Part → List ℕ
parts_bytes [] = []
parts_bytes (part ∷ parts) = 41 ∷ (part_bytes part ++ parts_bytes parts)

abbrev pub parts_terms : Terms → List Level → List Part → Terms
parts_terms terms [] parts = terms
parts_terms terms (around ∷ outer) [] = terms
parts_terms terms (around ∷ outer) (part ∷ parts) = parts_terms (finished (part_level (with_atom around (put (group terms) empty)) part)) outer parts

-- the grammar allows the part, inside these parentheses
abbrev pub IsRightPart : Version → List ℕ → Part → Type 0
IsRightPart version opened part =
    (is_right_alternatives version part.tree ≡ true) × (length opened + alternatives_depth part.tree ≤ 32) × (are_right_suffixes version part.repeats ≡ true)

abbrev pub IsRightParts : Version → List ℕ → List Part → Type 0
IsRightParts version [] [] = Unit {0}
IsRightParts version [] (part ∷ parts) = ⊥
IsRightParts version (last ∷ opened) [] = ⊥
IsRightParts version (last ∷ opened) (part ∷ parts) = IsRightPart version opened part × IsRightParts version opened parts

pub atom_part_right : (version : Version) (opened : List ℕ) (atom : Atom) (part : Part) → is_right_atom version atom ≡ true → length opened + atom_depth atom ≤ 32 → IsRightPart version opened part
    → IsRightPart version opened (atom_part atom part)
atom_part_right version opened atom part right few (right_tree, few_tree, suffixes) =
    let first : Repetition = repeated_by (once atom) part.repeats in
    let depth : alternatives_depth (put_first first part.tree) ≡ max (atom_depth atom) (alternatives_depth part.tree) =
    put_depth first part.tree ∙ ap (λ (d : ℕ). max d (alternatives_depth part.tree)) (repeated_depth (once atom) part.repeats) in
    (put_right version first part.tree (repeated_right version (once atom) part.repeats right suffixes) right_tree, omega arith, refl)
