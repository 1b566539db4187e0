-- What the parts of a pattern's tree hold, and trees one after another.
use Rattle.std.proofs.Common.{◌≡◌, ◌⊎◌, ℕ, List, [], ◌++◌, refl, sym, ap, subst, ◌∙◌, inl, inr, append_assoc, append-nil}
use Rattle.pol_pattern.specs.Flat.{Factor, group, Term, empty, put, join_term}
use Rattle.pol_pattern.specs.Sets.{InFactor, InTerm, InTerms}
use Rattle.pol_pattern.specs.Spelling.{Alternatives, Sequence, Repetition, single, or, nothing, next, once, parentheses, alternatives_terms, sequence_factors, repetition_factors}
use Rattle.pol_pattern.specs.Languages.{Concatenation}
use Rattle.pol_pattern.proofs.TreeLevels.{join_term_assoc}

abbrev pub InPart : Repetition → List ℕ → Type 0
InPart part = InTerm (repetition_factors part)

abbrev pub InSequence : Sequence → List ℕ → Type 0
InSequence sequence = InTerm (sequence_factors sequence)

abbrev pub InAlternatives : Alternatives → List ℕ → Type 0
InAlternatives alternatives = InTerms (alternatives_terms alternatives)

-- ---- factors one after another

pub in_join_term : (a b : Term) (text : List ℕ) → InTerm (join_term a b) text → Concatenation (InTerm a) (InTerm b) text
in_join_term empty b text held = ([], text, refl, refl, held)
in_join_term (put factor a) b text (front, back, whole, first, rest) =
    let parts = in_join_term a b back rest in (
      front ++ parts.0,
      parts.1,
      whole ∙ ap (λ (t : List ℕ). front ++ t) parts.2 ∙ sym (append_assoc front parts.0 parts.1),
      (front, parts.0, refl, first, parts.3),
      parts.4,
    )

pub join_term_in : (a b : Term) (text : List ℕ) → Concatenation (InTerm a) (InTerm b) text → InTerm (join_term a b) text
join_term_in empty b text (front, back, whole, first, rest) = subst (InTerm b) (sym (whole ∙ ap (λ (t : List ℕ). t ++ back) first)) rest
join_term_in (put factor a) b text (front, back, whole, (head, tail, split, first, more), rest) = (
  head,
  tail ++ back,
  whole ∙ ap (λ (t : List ℕ). t ++ back) split ∙ append_assoc head tail back,
  first,
  join_term_in a b (tail ++ back) (tail, back, refl, more, rest),
)

-- one factor alone
pub one_in : (factor : Factor) (text : List ℕ) → InTerm (put factor empty) text → InFactor factor text
one_in factor text (front, back, whole, h, nil) =
    subst (InFactor factor) (sym (whole ∙ ap (λ (b : List ℕ). front ++ b) nil ∙ append-nil front)) h

pub in_one : (factor : Factor) (text : List ℕ) → InFactor factor text → InTerm (put factor empty) text
in_one factor text h = (text, [], sym (append-nil text), h, refl)

-- ---- sequences

abbrev pub append : Sequence → Sequence → Sequence
append nothing others = others
append (next first more) others = next first (append more others)

pub factors-append : (s t : Sequence) → sequence_factors (append s t) ≡ join_term (sequence_factors s) (sequence_factors t)
factors-append nothing t = refl
factors-append (next first more) t =
    ap (join_term (repetition_factors first)) (factors-append more t)
    ∙ sym (join_term_assoc (repetition_factors first) (sequence_factors more) (sequence_factors t))

pub in_append : (s t : Sequence) (text : List ℕ) → InSequence (append s t) text → Concatenation (InSequence s) (InSequence t) text
in_append s t text h = in_join_term (sequence_factors s) (sequence_factors t) text (subst (λ (f : Term). InTerm f text) (factors-append s t) h)

pub append_in : (s t : Sequence) (text : List ℕ) → Concatenation (InSequence s) (InSequence t) text → InSequence (append s t) text
append_in s t text h = subst (λ (f : Term). InTerm f text) (sym (factors-append s t)) (join_term_in (sequence_factors s) (sequence_factors t) text h)

pub in_next : (part : Repetition) (s : Sequence) (text : List ℕ) → InSequence (next part s) text → Concatenation (InPart part) (InSequence s) text
in_next part s text h = in_join_term (repetition_factors part) (sequence_factors s) text h

pub next_in : (part : Repetition) (s : Sequence) (text : List ℕ) → Concatenation (InPart part) (InSequence s) text → InSequence (next part s) text
next_in part s text h = join_term_in (repetition_factors part) (sequence_factors s) text h

-- ---- alternatives

abbrev pub in_parentheses : Alternatives → Repetition
in_parentheses alternatives = once (parentheses alternatives)

pub in_group : (a : Alternatives) (text : List ℕ) → InPart (in_parentheses a) text → InAlternatives a text
in_group a text h = one_in (group (alternatives_terms a)) text h

pub group_in : (a : Alternatives) (text : List ℕ) → InAlternatives a text → InPart (in_parentheses a) text
group_in a text h = in_one (group (alternatives_terms a)) text h

pub in_single : (s : Sequence) (text : List ℕ) → InAlternatives (single s) text → InSequence s text
in_single s text (inl h) = h
in_single s text (inr h) = absurd h

pub single_in : (s : Sequence) (text : List ℕ) → InSequence s text → InAlternatives (single s) text
single_in s text h = inl h

abbrev pub as_sequence : Alternatives → Sequence
as_sequence (single s) = s
as_sequence (or s others) = next (in_parentheses (or s others)) nothing

pub in_sequence : (a : Alternatives) (text : List ℕ) → InSequence (as_sequence a) text → InAlternatives a text
in_sequence (single s) text h = inl h
in_sequence (or s others) text h = in_group (or s others) text h

pub sequence_in : (a : Alternatives) (text : List ℕ) → InAlternatives a text → InSequence (as_sequence a) text
sequence_in (single s) text h = in_single s text h
sequence_in (or s others) text h = group_in (or s others) text h

abbrev pub join_alternatives : Alternatives → Alternatives → Alternatives
join_alternatives (single s) others = or s others
join_alternatives (or s more) others = or s (join_alternatives more others)

pub in_either : (a b : Alternatives) (text : List ℕ) → InAlternatives (join_alternatives a b) text → InAlternatives a text ⊎ InAlternatives b text
in_either (single s) b text (inl h) = inl (inl h)
in_either (single s) b text (inr h) = inr h
in_either (or s more) b text (inl h) = inl (inl h)
in_either (or s more) b text (inr h) =
    elim (in_either more b text h) [
      | inl first ↦ inl (inr first)
      | inr second ↦ inr second
    ]

pub either_in : (a b : Alternatives) (text : List ℕ) → InAlternatives a text ⊎ InAlternatives b text → InAlternatives (join_alternatives a b) text
either_in (single s) b text (inl (inl h)) = inl h
either_in (single s) b text (inl (inr h)) = absurd h
either_in (single s) b text (inr h) = inr h
either_in (or s more) b text (inl (inl h)) = inl h
either_in (or s more) b text (inl (inr h)) = inr (either_in more b text (inl h))
either_in (or s more) b text (inr h) = inr (either_in more b text (inr h))
