-- Stepping a set of terms, and whether one of them holds the empty text.
use Rattle.std.proofs.Common.{◌≡◌, ◌⊎◌, ◌↔◌, inl, inr, ◌+◌, ◌<◌, ℕ, Bool, true, false, IsTrue, List, [], ◌∷◌, ◌++◌, length, take, get_or, Contains, refl, sym, subst, ◌∙◌, append-nil}
use Rattle.std.proofs.lemmas.Bool.{false≢true}
use Rattle.std.proofs.lemmas.List.{take_more}
use Rattle.std.proofs.lemmas.List.Elements.{Contains-get_or, Contains-append_left, Contains-push, Contains-push_cases}
use Rattle.pol_pattern.specs.Flat.{Term, Terms}
use Rattle.pol_pattern.specs.Sets.{InTerm, InTerms}
use Rattle.pol_residual.specs.Derivative.{Derivative, Derivatives, Residual}
use Rattle.pol_deriv.specs.Linear.{term_holds_empty}
use Rattle.pol_deriv.specs.Table.{Means, Keeps, StandsFor, IsSetOf, HasTerm, AreNumbers}
use Rattle.pol_deriv.specs.Nodes.{term_at}
use Rattle.pol_deriv.proofs.LinearForms.{term_empty}
use Rattle.pol_deriv.proofs.Residuals.{next_residual, residual_law}
use Rattle.pol_deriv.proofs.Tables.{at_means, means_within, means_one, term_means}
use Rattle.pol_deriv.proofs.Sets.{stands_same, stands_kept, stands_append}

-- ---- the numbers of a set, one after another

take-more : (set : List ℕ) (i : ℕ) → i < length set → take (i + 1) set ≡ take i set ++ get_or set i 0 ∷ []
take-more set i lt = take_more set i 0 lt

pub seen_more : (set : List ℕ) (i m : ℕ) → i < length set → Contains (take (i + 1) set) m → Contains (take i set) m ⊎ (get_or set i 0 ≡ m)
seen_more set i m lt c = Contains-push_cases (take i set) (get_or set i 0) m (subst (λ (l : List ℕ). Contains l m) (take-more set i lt) c)

pub step_more : (old new after : List Term) (symbol : ℕ) (set : List ℕ) (i : ℕ) (found list : List ℕ) → Keeps old new → AreNumbers old set → i < length set
    → StandsFor new found (Derivatives symbol (HasTerm old (take i set))) → Keeps new after
    → ((term : Term) → Means new (get_or set i 0) term → IsSetOf after list (Derivative symbol term))
    → StandsFor after (found ++ list) (Derivatives symbol (HasTerm old (take (i + 1) set)))
step_more old new after symbol set i found list keeps numbers lt stands grown lent =
    let n = get_or set i 0 in
    let own = term_at old n in
    let means = at_means old n (numbers n (Contains-get_or set i 0 lt)) in
    let more = take-more set i lt in
    stands_same
    (λ next. (
      λ h. elim h [
        | inl w ↦ (w.0, (w.1.0, subst (λ (l : List ℕ). Contains l w.1.0) (sym more) (Contains-append_left (take i set) (n ∷ []) w.1.0 w.1.1), w.1.2), w.2)
        | inr d ↦ (own, (n, subst (λ (l : List ℕ). Contains l n) (sym more) (Contains-push (take i set) n), means), d)
      ],
      λ w. elim (seen_more set i w.1.0 lt w.1.1) [
        | inl c ↦ inl (w.0, (w.1.0, c, w.1.2), w.2)
        | inr e ↦ inr (subst (λ (t : Term). Derivative symbol t next) (means_one old n w.0 own (subst (λ (k : ℕ). Means old k w.0) (sym e) w.1.2) means) w.2)
      ],
    ))
    (stands_append found list (stands_kept grown stands) (lent own (keeps n own means)).members)

-- ---- a residual, stepped

pub residual_stepped : (old new : List Term) (symbol : ℕ) (set next : List ℕ) (pattern : Terms) (text : List ℕ) → IsSetOf new next (Derivatives symbol (HasTerm old set)) → IsSetOf old set (Residual pattern text)
    → IsSetOf new next (Residual pattern (text ++ symbol ∷ []))
residual_stepped old new symbol set next pattern text stepped residual = record {
  sorted = stepped.sorted;
  members = stands_same (λ term. (
    λ w.
        let m = residual.members.sound w.1.0 w.1.1 in
        let before = subst (λ (t : Term). Residual pattern text t) (means_one old w.1.0 m.0 w.0 m.1 w.1.2) m.2 in
        (next_residual pattern text symbol term).1 (w.0, before, w.2),
    λ r.
        let w = (next_residual pattern text symbol term).0 r in
        (w.0, residual.members.complete w.0 w.1, w.2),
  )) stepped.members;
}

-- ---- the empty text

abbrev pub Accepts : List Term → List ℕ → Bool → Type 0
Accepts table set answer = IsTrue answer ↔ ((term : Term) × HasTerm table set term × InTerm term [])

pub accepts_one : (table : List Term) (set : List ℕ) (i : ℕ) → AreNumbers table set → i < length set → term_holds_empty (term_at table (get_or set i 0)) ≡ true → Accepts table set true
accepts_one table set i numbers lt holds =
    let n = get_or set i 0 in
    let there = Contains-get_or set i 0 lt in
    (λ e. (term_at table n, (n, there, at_means table n (numbers n there)), (term_empty (term_at table n)).0 holds), λ w. refl)

pub accepts_none : (table : List Term) (set : List ℕ) → ((n : ℕ) → Contains set n → term_holds_empty (term_at table n) ≡ false) → Accepts table set false
accepts_none table set none = (
  λ e. absurd (false≢true e),
  λ w.
      let own = term_means table w.1.0 w.0 w.1.2 in
      let holds = subst (λ (t : Term). term_holds_empty t ≡ true) (sym own) ((term_empty w.0).1 w.2) in
      absurd (false≢true (sym (none w.1.0 w.1.1) ∙ holds)),
)

pub residual_accepts : (table : List Term) (set : List ℕ) (answer : Bool) (pattern : Terms) (text : List ℕ) → Accepts table set answer → IsSetOf table set (Residual pattern text) → IsTrue answer ↔ InTerms pattern text
residual_accepts table set answer pattern text accepts residual =
    let law = residual_law pattern text [] in
    let whole = append-nil text in (
      λ e.
          let w = accepts.0 e in
          let m = residual.members.sound w.1.0 w.1.1 in
          subst (InTerms pattern) whole (law.1 (w.0, subst (λ (t : Term). Residual pattern text t) (means_one table w.1.0 m.0 w.0 m.1 w.1.2) m.2, w.2)),
      λ held.
          let w = law.0 (subst (InTerms pattern) (sym whole) held) in
          accepts.1 (w.0, residual.members.complete w.0 w.1, w.2),
    )

-- a number of the set, in a table that grew
pub item_within : (old new : List Term) (set : List ℕ) (i : ℕ) → Keeps old new → AreNumbers old set → i < length set → get_or set i 0 < length new
item_within old new set i keeps numbers lt =
    let n = get_or set i 0 in
    means_within new n (term_at old n) (keeps n (term_at old n) (at_means old n (numbers n (Contains-get_or set i 0 lt))))
