-- The residuals of entries by texts, and what the scan keeps of them.
use Rattle.std.proofs.Common.{◌<◌, ◌≤◌, ◌↔◌, inl, inr, ℕ, zero, suc, List, [], ◌∷◌, ◌++◌, length, sym, subst, append_assoc, append-nil, arith}
use Rattle.std.proofs.lemmas.List.Elements.{All-contains}
use Rattle.pol_pattern.specs.Flat.{Term, Terms}
use Rattle.pol_pattern.specs.Sets.{InTerm}
use Rattle.pol_pattern.specs.Spelling.{Holds}
use Rattle.pol_residual.specs.Derivative.{Derivatives, Residual, at_first, by_more}
use Rattle.pol_automaton.specs.declared.entry_term.EntryTerm.{EntryTerm}
use Rattle.pol_automaton.specs.After.{After, after_more, after_same, after_push}
use Rattle.pol_automaton.specs.Decision.{entry_at}
use Rattle.pol_residual.specs.Residuals.{InResidual, any_text, SameResiduals}
use Rattle.pol_automaton.specs.Cutting.{TermSets, SameUpTo, AreSame}
use Rattle.pol_automaton.specs.Scanning.{item_of, HasTerm}
use Rattle.pol_automaton.specs.Entries.{Entries, AreWhole, AreEntries}

-- ---- residuals, from the residual by the empty text on

pub residual_after : (flat : Terms) (text : List ℕ) (term : Term) → Residual flat text term → After (Residual flat []) text term
residual_after flat text term (at_first among) = at_first among
residual_after flat text term (by_more {text = before} {symbol} {term = own} r d) =
    (after_push (Residual flat []) before symbol term).1 (own, residual_after flat before own r, d)

pub after_residual : (flat : Terms) (done text : List ℕ) (term : Term) → After (Residual flat done) text term → Residual flat (done ++ text) term
after_residual flat done [] term h = subst (λ (l : List ℕ). Residual flat l term) (sym (append-nil done)) h
after_residual flat done (symbol ∷ text) term h =
    let more = after_more (Derivatives symbol (Residual flat done)) (Residual flat (done ++ symbol ∷ [])) text (λ t w. by_more w.1 w.2) term h in
    subst (λ (l : List ℕ). Residual flat l term) (append_assoc done (symbol ∷ []) text) (after_residual flat (done ++ symbol ∷ []) text term more)

pub after_some : (set : Term → Type 0) (text : List ℕ) (term : Term) → After set text term → (first : Term) × set first
after_some set [] term h = (term, h)
after_some set (symbol ∷ text) term h = let w = after_some (Derivatives symbol set) text term h in (w.1.0, w.1.1)

-- ---- of an entry

pub after_is : (e : Entries) (entries : List (List ℕ)) → AreEntries e entries → (entry : ℕ) → entry < length entries → (text : List ℕ) (term : Term)
    → After (HasTerm e.terms e.start entry) text term ↔ InResidual (entry_at entries entry) text term
after_is e entries are entry lt text term = (
  λ h.
      let own = are.spelled entry lt in
      (own.0, own.1, after_residual own.0 [] text term ((after_same (HasTerm e.terms e.start entry) (Residual own.0 []) text (are.first entry own.0 lt own.1) term).0 h)),
  λ r. (after_same (HasTerm e.terms e.start entry) (Residual r.0 []) text (are.first entry r.0 lt r.1) term).1 (residual_after r.0 text term r.2),
)

pub after_none : (e : Entries) (entries : List (List ℕ)) → AreWhole e → AreEntries e entries → (entry : ℕ) → length entries ≤ entry → (text : List ℕ) (term : Term)
    → ¬ (After (HasTerm e.terms e.start entry) text term)
after_none e entries whole are entry le text term h =
    let w = after_some (HasTerm e.terms e.start entry) text term h in
    let lt : entry < e.count = All-contains (λ (x : EntryTerm). x.entry < e.count) e.start (item_of entry w.1.0) whole.below w.1.1 in
    absurd (omega (arith, are.many))

-- the sets are the residuals of the sources by the text, and there are no more
pub record AreOf (sets : TermSets) (sources : List (List ℕ)) (text : List ℕ) : Type 0 where
  pub each : (k : ℕ) → k < length sources → (term : Term) → sets k term ↔ InResidual (entry_at sources k) text term
  pub none : (k : ℕ) → length sources ≤ k → (term : Term) → ¬ (sets k term)

later : (sets : TermSets) (source : List ℕ) (sources : List (List ℕ)) (text : List ℕ) → AreOf sets (source ∷ sources) text → AreOf (λ k. sets (suc k)) sources text
later sets source sources text are = record { each = λ k lt. are.each (suc k) (omega arith); none = λ k le. are.none (suc k) (omega arith) }

none_later : (sets : TermSets) (text : List ℕ) → AreOf sets [] text → AreOf (λ k. sets (suc k)) [] text
none_later sets text are = record { each = λ k lt. absurd (omega arith); none = λ k le. are.none (suc k) (omega arith) }

same_sets : (many : ℕ) (sources : List (List ℕ)) (a b : TermSets) (text other : List ℕ) → AreOf a sources text → AreOf b sources other → SameResiduals sources text other → SameUpTo many a b
same_sets zero sources a b text other p q same = tt
same_sets (suc many) [] a b text other p q same =
    inr (
      λ term. (λ h. absurd (p.none 0 (omega arith) term h), λ h. absurd (q.none 0 (omega arith) term h)),
      same_sets many [] (λ k. a (suc k)) (λ k. b (suc k)) text other (none_later a text p) (none_later b other q) tt,
    )
same_sets (suc many) (source ∷ sources) a b text other p q (inl sure) =
    inl ((p.each 0 (omega arith) any_text).1 sure.0, (q.each 0 (omega arith) any_text).1 sure.1)
same_sets (suc many) (source ∷ sources) a b text other p q (inr same) =
    inr (
      λ term.
          let now = p.each 0 (omega arith) term in
          let then = q.each 0 (omega arith) term in
          (λ h. then.1 ((same.0 term).0 (now.0 h)), λ h. now.1 ((same.0 term).1 (then.0 h))),
      same_sets many sources (λ k. a (suc k)) (λ k. b (suc k)) text other (later a source sources text p) (later b source sources other q) same.1,
    )

same_sources : (sources : List (List ℕ)) (a b : TermSets) (text other : List ℕ) → AreOf a sources text → AreOf b sources other → SameUpTo (length sources) a b → SameResiduals sources text other
same_sources [] a b text other p q same = tt
same_sources (source ∷ sources) a b text other p q (inl sure) =
    inl ((p.each 0 (omega arith) any_text).0 sure.0, (q.each 0 (omega arith) any_text).0 sure.1)
same_sources (source ∷ sources) a b text other p q (inr same) =
    inr (
      λ term.
          let now = p.each 0 (omega arith) term in
          let then = q.each 0 (omega arith) term in
          (λ h. then.0 ((same.0 term).0 (now.1 h)), λ h. now.0 ((same.0 term).1 (then.1 h))),
      same_sources sources (λ k. a (suc k)) (λ k. b (suc k)) text other (later a source sources text p) (later b source sources other q) same.1,
    )

-- of entries
abbrev pub sets_after : Entries → List ℕ → TermSets
sets_after e text entry = After (HasTerm e.terms e.start entry) text

pub after_are : (e : Entries) (entries : List (List ℕ)) → AreWhole e → AreEntries e entries → (text : List ℕ) → AreOf (sets_after e text) entries text
after_are e entries whole are text = record { each = λ k lt. after_is e entries are k lt text; none = λ k le. after_none e entries whole are k le text }

-- the residuals after two texts are the same, as far as they count, exactly if the entries' are
pub same_after : (e : Entries) (entries : List (List ℕ)) → AreWhole e → AreEntries e entries → (text other : List ℕ) → AreSame (sets_after e text) (sets_after e other) ↔ SameResiduals entries text other
same_after e entries whole are text other =
    let p = after_are e entries whole are text in
    let q = after_are e entries whole are other in (
      λ same. same_sources entries (sets_after e text) (sets_after e other) text other p q (same (length entries)),
      λ same many. same_sets many entries (sets_after e text) (sets_after e other) text other p q same,
    )

-- ---- which texts an entry holds

pub holds_after : (e : Entries) (entries : List (List ℕ)) → AreEntries e entries → (entry : ℕ) → entry < length entries → (text : List ℕ)
    → Holds (entry_at entries entry) text ↔ ((term : Term) × After (HasTerm e.terms e.start entry) text term × InTerm term [])
holds_after e entries are entry lt text =
    let told = are.told entry [] lt text in
    let after = after_is e entries are entry lt text in (
      λ h. let w = told.0 h in (w.0, (after w.0).1 w.1, w.2),
      λ w. told.1 (w.0, (after w.0).0 w.1, w.2),
    )
