-- Texts of symbols, and the `.*` that holds them all.
use Rattle.std.proofs.Common.{◌≡◌, ℕ, Bool, true, false, ◌&&◌, List, [], ◌∷◌, ◌++◌, refl, sym, ap, subst, ◌∙◌, inl}
use Rattle.std.proofs.lemmas.Bool.{and_parts, and_from}
use Rattle.std.proofs.lemmas.List.Folds.{list_all-append}
use Rattle.basics.specs.Symbol.{is_symbol, is_text}
use Rattle.pol_pattern.specs.Flat.{class, star, empty, put, Terms, none, alt}
use Rattle.pol_pattern.specs.Sets.{InTerms, Joins}
use Rattle.pol_pattern.specs.Spelling.{any_symbol, Repetition, next}
use Rattle.pol_pattern.proofs.ClassHolds.{class_holds}
use Rattle.posix_expression.proofs.PatternSets.{InPart, InSequence, in_one, in_append, append_in, in_next, next_in}
use Rattle.posix_expression.proofs.PatternTrees.{any_sequence, around_part}

pub text_parts : (xs ys : List ℕ) → is_text (xs ++ ys) ≡ true → (is_text xs ≡ true) × (is_text ys ≡ true)
text_parts xs ys h = and_parts (is_text xs) (is_text ys) (sym (list_all-append is_symbol xs ys) ∙ h)

-- ---- `.*`

abbrev any_terms : Terms
any_terms = alt (put (class any_symbol) empty) none

one_symbol : (byte : ℕ) → is_symbol byte ≡ true → InTerms any_terms (byte ∷ [])
one_symbol byte h =
    inl (in_one (class any_symbol) (byte ∷ []) (byte, refl, class_holds (λ b. true) byte ∙ and_from (is_symbol byte) true h refl))

pub all_joined : (text : List ℕ) → is_text text ≡ true → Joins (InTerms any_terms) text
all_joined [] h = ([], tt, refl)
all_joined (byte ∷ text) h =
    let parts = and_parts (is_symbol byte) (is_text text) h in
    let rest = all_joined text parts.1 in
    ((byte ∷ []) ∷ rest.0, (one_symbol byte parts.0, rest.1), ap (λ (t : List ℕ). byte ∷ t) rest.2)

-- any text may stand where a `.*` is written, and none elsewhere
abbrev pub Stands : Bool → List ℕ → Type 0
Stands true text = Unit {0}
Stands false text = text ≡ []

pub stands-nil : (b : Bool) → Stands b []
stands-nil true = tt
stands-nil false = refl

pub any_stands : (b : Bool) (text : List ℕ) → InSequence (any_sequence b) text → Stands b text
any_stands true text h = tt
any_stands false text h = h

pub stands_any : (b : Bool) (text : List ℕ) → is_text text ≡ true → Stands b text → InSequence (any_sequence b) text
stands_any true text texts h = in_one (star any_terms) text (all_joined text texts)
stands_any false text texts h = h

-- what is so of one of two stands for both
pub stands_both : (a b : Bool) (text : List ℕ) → Stands (a && b) text → Stands a text
stands_both true b text h = tt
stands_both false b text h = h

pub stands_first : (a b : Bool) (text : List ℕ) → Stands a text → b ≡ true → Stands (a && b) text
stands_first true b text h is = subst (λ (c : Bool). Stands c text) (sym is) tt
stands_first false b text h is = h

-- ---- a part with what may stand around it

pub record Around (opens closes : Bool) (P : List ℕ → Type 0) (text : List ℕ) : Type 0 where
  pub before : List ℕ
  pub part : List ℕ
  pub after : List ℕ
  pub whole : text ≡ before ++ (part ++ after)
  pub opened : Stands opens before
  pub closed : Stands closes after
  pub held : P part

pub in_around : (opens closes : Bool) (part : Repetition) (text : List ℕ) → InSequence (around_part opens part closes) text → Around opens closes (InPart part) text
in_around opens closes part text h =
    let outer = in_append (any_sequence opens) (next part (any_sequence closes)) text h in
    let inner = in_next part (any_sequence closes) outer.1 outer.4 in
    record {
      before = outer.0;
      part = inner.0;
      after = inner.1;
      whole = outer.2 ∙ ap (λ (t : List ℕ). outer.0 ++ t) inner.2;
      opened = any_stands opens outer.0 outer.3;
      closed = any_stands closes inner.1 inner.4;
      held = inner.3;
    }

pub around_in : (opens closes : Bool) (part : Repetition) (text : List ℕ) → is_text text ≡ true → Around opens closes (InPart part) text → InSequence (around_part opens part closes) text
around_in opens closes part text texts h =
    let all : is_text (h.before ++ (h.part ++ h.after)) ≡ true = ap is_text (sym h.whole) ∙ texts in
    let first = text_parts h.before (h.part ++ h.after) all in
    let second = text_parts h.part h.after first.1 in
    append_in (any_sequence opens) (next part (any_sequence closes)) text (
      h.before,
      h.part ++ h.after,
      h.whole,
      stands_any opens h.before first.0 h.opened,
      next_in part (any_sequence closes) (h.part ++ h.after) (h.part, h.after, refl, h.held, stands_any closes h.after second.1 h.closed),
    )
