-- Entries of which an automaton is to be made, as contracts see them: they don't hold their
-- patterns.
use Rattle.std.specs.Prelude.{◌≡◌, ◌↔◌, ◌<◌, ℕ, List, [], length, All, refl}
use Rattle.std.specs.Coded.{Coded, code_by, coded×, coded_ℕ, coded_list}
use Rattle.pol_pattern.specs.Flat.{Term, Terms}
use Rattle.pol_pattern.specs.Sets.{InTerm}
use Rattle.pol_pattern.specs.Spelling.{Spells, Holds}
use Rattle.pol_residual.specs.Derivative.{Residual}
use Rattle.pol_deriv.specs.TermCode.{term_code}
use Rattle.pol_scan.specs.Alphabet.{Alphabet, IsAlphabet, HasClasses}
use Rattle.pol_automaton.specs.declared.entry_term.EntryTerm.{EntryTerm}
use Rattle.pol_residual.specs.Residuals.{InResidual}
use Rattle.pol_automaton.specs.Decision.{entry_at}
use Rattle.pol_automaton.specs.Alike.{AreAlike}
use Rattle.pol_automaton.specs.Scanning.{HasTerm, AreResiduals}

-- how texts are read; terms under numbers; the residual of each entry by the empty text; how many
-- entries there are
pub record Entries : Type 0 where
  pub alphabet : Alphabet
  pub terms : List Term
  pub start : List EntryTerm
  pub count : ℕ

abbrev pub alphabet_code : Coded Alphabet
alphabet_code =
    code_by (ℕ × (List ℕ × List ℕ))
    (coded× coded_ℕ (coded× (coded_list coded_ℕ) (coded_list coded_ℕ)))
    (λ a. (a.width, (a.columns, a.least)))
    (λ p. record { width = p.0; columns = p.1.0; least = p.1.1 }) (λ _. refl)

abbrev pub entry_term_code : Coded EntryTerm
entry_term_code = code_by (ℕ × ℕ) (coded× coded_ℕ coded_ℕ) (λ e. (e.entry, e.term))
    (λ p. record { entry = p.0; term = p.1 }) (λ _. refl)

abbrev pub entries_code : Coded Entries
entries_code =
    code_by (Alphabet × (List Term × (List EntryTerm × ℕ)))
    (coded× alphabet_code
    (coded× (coded_list term_code) (coded× (coded_list entry_term_code) coded_ℕ)))
    (λ e. (e.alphabet, (e.terms, (e.start, e.count))))
    (λ p. record { alphabet = p.0; terms = p.1.0; start = p.1.1.0; count = p.1.1.1 }) (λ _. refl)

-- their parts fit each other
pub record AreWhole (collected : Entries) : Type 0 where
  pub letters : IsAlphabet collected.alphabet
  pub right : AreResiduals collected.terms collected.start
  pub below : All (λ item. item.entry < collected.count) collected.start

-- a text is held exactly if a term of the residual by it holds the empty text
abbrev pub IsToldByResiduals : List ℕ → Type 0
IsToldByResiduals source = (text : List ℕ) → Holds source text
    ↔ ((term : Term) × InResidual source text term × InTerm term [])

-- they are collected of these sources, in order
pub record AreEntries (collected : Entries) (entries : List (List ℕ)) : Type 0 where
  pub many : collected.count ≡ length entries
  -- they are read by the classes of alike symbols
  pub classes : HasClasses collected.alphabet (AreAlike entries)
  pub told : All IsToldByResiduals entries
  pub spelled : (entry : ℕ) → entry < length entries → (flat : Terms)
      × Spells (entry_at entries entry) flat
  pub first : (entry : ℕ) (flat : Terms) → entry < length entries
      → Spells (entry_at entries entry) flat
      → (term : Term) → HasTerm collected.terms collected.start entry term ↔ Residual flat [] term

-- ---- more terms

-- the numbers have the same terms in both tables
abbrev pub SameTerms : List Term → List Term → List EntryTerm → Type 0
SameTerms old new items =
    (entry : ℕ) (term : Term) → HasTerm old items entry term ↔ HasTerm new items entry term

-- the second are the first, with more terms known: what was a residual still is, of the same terms
pub record GrowsTo (old new : Entries) : Type 0 where
  pub alphabet : new.alphabet ≡ old.alphabet
  pub start : new.start ≡ old.start
  pub count : new.count ≡ old.count
  pub begins : SameTerms old.terms new.terms old.start
  pub known : (items : List EntryTerm) → AreResiduals old.terms items
      → AreResiduals new.terms items × SameTerms old.terms new.terms items
