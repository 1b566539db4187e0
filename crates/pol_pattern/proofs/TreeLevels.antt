-- What the reader's levels make of a tree: its flat form.
use Rattle.std.proofs.Common.{◌≡◌, refl, sym, ap, ◌∙◌}
use Rattle.pol_pattern.specs.Flat.{Term, empty, put, Terms, none, alt, join_terms, join_term}
use Rattle.pol_pattern.specs.Spelling.{suffix_repeat, Alternatives, Sequence, Repetition, single, or, nothing, next, once, repeated, alternatives_terms, sequence_factors, repetition_factors, atom_factors}
use Rattle.pol_pattern.specs.Reading.{Level, fresh, present, with_atom, with_repeat, finished, with_bar}

-- ---- joins

pub join_term-empty : (term : Term) → join_term term empty ≡ term
join_term-empty empty = refl
join_term-empty (put factor term) = ap (put factor) (join_term-empty term)

pub join_term_assoc : (a b c : Term) → join_term (join_term a b) c ≡ join_term a (join_term b c)
join_term_assoc empty b c = refl
join_term_assoc (put factor a) b c = ap (put factor) (join_term_assoc a b c)

pub join_terms_assoc : (a b c : Terms) → join_terms (join_terms a b) c ≡ join_terms a (join_terms b c)
join_terms_assoc none b c = refl
join_terms_assoc (alt term a) b c = ap (alt term) (join_terms_assoc a b c)

-- ---- the level after each part of a tree

abbrev pub repetition_level : Level → Repetition → Level
repetition_level level (once atom) = with_atom level (atom_factors atom)
repetition_level level (repeated inner suffix) = with_repeat (repetition_level level inner) (suffix_repeat suffix)

abbrev pub sequence_level : Level → Sequence → Level
sequence_level level nothing = level
sequence_level level (next first others) = sequence_level (repetition_level level first) others

abbrev pub alternatives_level : Level → Alternatives → Level
alternatives_level level (single sequence) = sequence_level level sequence
alternatives_level level (or sequence others) = alternatives_level (with_bar (sequence_level level sequence)) others

pub repetition_level_is : (level : Level) (tree : Repetition) → repetition_level level tree ≡ record { done = level.done; before = present level; last = repetition_factors tree }
repetition_level_is level (once atom) = refl
repetition_level_is level (repeated inner suffix) = ap (λ (l : Level). with_repeat l (suffix_repeat suffix)) (repetition_level_is level inner)

sequence_done : (level : Level) (tree : Sequence) → (sequence_level level tree).done ≡ level.done
sequence_done level nothing = refl
sequence_done level (next first others) =
    sequence_done (repetition_level level first) others ∙ ap (λ (l : Level). l.done) (repetition_level_is level first)

sequence_present : (level : Level) (tree : Sequence) → present (sequence_level level tree) ≡ join_term (present level) (sequence_factors tree)
sequence_present level nothing = sym (join_term-empty (present level))
sequence_present level (next first others) =
    sequence_present (repetition_level level first) others
    ∙ ap (λ (l : Level). join_term (present l) (sequence_factors others)) (repetition_level_is level first)
    ∙ join_term_assoc (present level) (repetition_factors first) (sequence_factors others)

-- the terms, the first of which begins with these factors
abbrev after : Term → Terms → Terms
after term none = none
after term (alt first others) = alt (join_term term first) others

after-empty : (terms : Terms) → after empty terms ≡ terms
after-empty none = refl
after-empty (alt first others) = refl

sequence_finished : (level : Level) (tree : Sequence) → finished (sequence_level level tree) ≡ join_terms level.done (alt (join_term (present level) (sequence_factors tree)) none)
sequence_finished level tree =
    ap (λ (d : Terms). join_terms d (alt (present (sequence_level level tree)) none)) (sequence_done level tree)
    ∙ ap (λ (t : Term). join_terms level.done (alt t none)) (sequence_present level tree)

alternatives_finished : (level : Level) (tree : Alternatives) → finished (alternatives_level level tree) ≡ join_terms level.done (after (present level) (alternatives_terms tree))
alternatives_finished level (single sequence) = sequence_finished level sequence
alternatives_finished level (or sequence others) =
    alternatives_finished (with_bar (sequence_level level sequence)) others
    ∙ ap (λ (t : Terms). join_terms (finished (sequence_level level sequence)) t) (after-empty (alternatives_terms others))
    ∙ ap (λ (d : Terms). join_terms d (alternatives_terms others)) (sequence_finished level sequence)
    ∙ join_terms_assoc level.done (alt (join_term (present level) (sequence_factors sequence)) none) (alternatives_terms others)

-- a level that begins with a tree ends with the tree's flat form
pub fresh_finished : (tree : Alternatives) → finished (alternatives_level fresh tree) ≡ alternatives_terms tree
fresh_finished tree = alternatives_finished fresh tree ∙ after-empty (alternatives_terms tree)
