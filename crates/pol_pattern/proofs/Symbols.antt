-- What the patterns of no parts hold.
use Rattle.std.proofs.Common.{◌≡◌, ℕ, Bool, true, false, not, eqb, List, [], ◌∷◌, ◌↔◌, Ok, refl, sym, ap, ◌∙◌, inl, inr, arith}
use Rattle.std.proofs.lemmas.Bool.{and_parts, and_from, eqb-true, eq-eqb}
use Rattle.basics.specs.Symbol.{is_symbol}
use Rattle.pol_pattern.specs.declared.version.Version.TheVariants.{Two}
use Rattle.pol_pattern.specs.Flat.{class_where, class, empty, put, Terms, none, alt}
use Rattle.pol_pattern.specs.Sets.{InClass, InTerms}
use Rattle.pol_pattern.specs.Spelling.{single, nothing, once, literal, dot, bracket, escaped, atom_bytes, is_special, is_right_atom, only, any_symbol, Holds}
use Rattle.pol_pattern.specs.Reading.{reading}
use Rattle.pol_pattern.specs.Languages.{OneSymbol, Empty, EmptyLaw, LiteralLaw, EscapedLaw, DotLaw, ClassLaw, is_in_bracket}
use Rattle.pol_pattern.proofs.ClassHolds.{class_holds}
use Rattle.pol_pattern.proofs.Completeness.{spells_reads}
use Rattle.pol_pattern.proofs.Held.{holds_in, in_holds, alone, alone_read, one_in, in_one}

pub empty_law : EmptyLaw
empty_law text =
    let read : reading [] ≡ Ok (alt empty none) = spells_reads Two [] (alt empty none) (single nothing, refl, refl, refl, omega arith, omega arith, omega arith) in
    ((λ held. no_text text (holds_in [] text (alt empty none) read held)), (λ is_empty. in_holds [] text (alt empty none) read (inl is_empty)))
  where
    no_text : (text : List ℕ) → InTerms (alt empty none) text → Empty text
    no_text text (inl h) = h
    no_text text (inr h) = absurd h

-- ---- one class

class_in : (test : ℕ → Bool) (text : List ℕ) → InClass (class_where test) text → OneSymbol test text
class_in test text (symbol, is, held) =
    let parts = and_parts (is_symbol symbol) (test symbol) (sym (class_holds test symbol) ∙ held) in
    (symbol, is, parts.0, parts.1)

in_class : (test : ℕ → Bool) (text : List ℕ) → OneSymbol test text → InClass (class_where test) text
in_class test text (symbol, is, right, passes) = (symbol, is, class_holds test symbol ∙ and_from (is_symbol symbol) (test symbol) right passes)

-- a source whose flat form is one class
class_law_at : (source : List ℕ) (test : ℕ → Bool) (text : List ℕ) → reading source ≡ Ok (alt (put (class (class_where test)) empty) none) → Holds source text ↔ OneSymbol test text
class_law_at source test text read = (
  (λ held. class_in test text (one_in (class (class_where test)) text (holds_in source text _ read held))),
  (λ one. in_holds source text _ read (in_one (class (class_where test)) text (in_class test text one))),
)

-- the one symbol that is equal to this
one_only : (symbol : ℕ) (text : List ℕ) → OneSymbol (λ byte. eqb byte symbol) text → text ≡ symbol ∷ []
one_only symbol text (found, is, right, same) = is ∙ ap (λ (s : ℕ). s ∷ []) (eqb-true found symbol same)

only_law_at : (source : List ℕ) (symbol : ℕ) (text : List ℕ) → is_symbol symbol ≡ true → reading source ≡ Ok (alt (put (class (only symbol)) empty) none) → Holds source text ↔ (text ≡ symbol ∷ [])
only_law_at source symbol text right read =
    let law : Holds source text ↔ OneSymbol (λ byte. eqb byte symbol) text = class_law_at source (λ byte. eqb byte symbol) text read in
    ((λ held. one_only symbol text (law.0 held)), (λ is. law.1 (symbol, is, right, eq-eqb symbol symbol refl)))

pub literal_law : LiteralLaw
literal_law symbol text right ordinary =
    let flat : Terms = alt (put (class (only symbol)) empty) none in
    let atom : is_right_atom Two (literal symbol) ≡ true = and_from (is_symbol symbol) (not (is_special Two symbol)) right (ap not ordinary) in
    only_law_at (symbol ∷ []) symbol text right
    (spells_reads Two (symbol ∷ []) flat (alone (once (literal symbol)), and_from (is_right_atom Two (literal symbol)) true atom refl, refl, refl, omega arith, omega arith, omega arith))

pub escaped_law : EscapedLaw
escaped_law symbol text right =
    let flat : Terms = alt (put (class (only symbol)) empty) none in
    only_law_at (92 ∷ symbol ∷ []) symbol text right
    (spells_reads Two (92 ∷ symbol ∷ []) flat (alone (once (escaped symbol)), and_from (is_symbol symbol) true right refl, refl, refl, omega arith, omega arith, omega arith))

pub dot_law : DotLaw
dot_law text =
    class_law_at (46 ∷ []) (λ symbol. true) text
    (spells_reads Two (46 ∷ []) (alt (put (class any_symbol) empty) none) (alone (once dot), refl, refl, refl, omega arith, omega arith, omega arith))

pub class_law : ClassLaw
class_law true first others text right whole =
    class_law_at (atom_bytes (bracket true first others)) (is_in_bracket true (first ∷ others)) text
    (alone_read (atom_bytes (bracket true first others)) (once (bracket true first others)) whole right refl)
class_law false first others text right whole =
    class_law_at (atom_bytes (bracket false first others)) (is_in_bracket false (first ∷ others)) text
    (alone_read (atom_bytes (bracket false first others)) (once (bracket false first others)) whole right refl)
