-- Two automata that read one text, side by side.
use Rattle.std.specs.Prelude.{◌≡◌, ◌↔◌, ◌<◌, ◌&&◌, ◌==◌, ℕ, Bool, true, false, IsTrue, List, refl}
use Rattle.std.proofs.Common.{sym, ap, subst, ◌∙◌}
use Rattle.std.proofs.lemmas.Bool.{and_parts, and_from, eqb-true, eq-eqb}
use Rattle.std.proofs.lemmas.List.{map_push}
use Rattle.std.proofs.lemmas.List.Sums.{fold_push}
use Rattle.pol_names.specs.declared.decision.Verdict.{Verdict}
use Rattle.pol_names.specs.declared.decision.Verdict.TheVariants.{Permit, Deny}
use Rattle.pol_scan.specs.Alphabet.{Alphabet, column_of, least_of, word_of, text_of}
use Rattle.pol_scan.specs.Words.{longer}
use Rattle.pol_scan.specs.Table.{count, next, walk}
use Rattle.pol_scan.specs.Congruence.{Congruence, Keeps, keeps_itself}
use Rattle.pol_automaton.specs.declared.way.Way.{Way}
use Rattle.pol_automaton.specs.declared.way.Way.TheVariants.{NowPermitted, NowDenied}
use Rattle.pol_automaton.specs.Decision.{verdict_by}
use Rattle.pol_automaton.specs.Automaton.{Automaton, state_of, first_of}

-- the state to which a state and a symbol lead
abbrev pub state_after : Automaton → ℕ → ℕ → ℕ
state_after a state symbol = next a.table state (column_of a.alphabet symbol)

pub state_longer : (alphabet : Alphabet) (a : Automaton) (word : List ℕ) (column : ℕ)
    → state_of a (text_of alphabet (longer word column))
    ≡ state_after a (state_of a (text_of alphabet word)) (least_of alphabet column)
state_longer alphabet a word column =
    ap (λ text. walk a.table (word_of a.alphabet text)) (map_push (least_of alphabet) word column)
    ∙ ap (walk a.table)
    (map_push (column_of a.alphabet) (text_of alphabet word) (least_of alphabet column))
    ∙ fold_push (next a.table) 0 (word_of a.alphabet (text_of alphabet word))
    (column_of a.alphabet (least_of alphabet column))

-- words are the same if each automaton reads their texts into one state
abbrev pub pairs : Alphabet → Automaton → Automaton → Congruence
pairs alphabet a b = record {
  width = alphabet.width;
  same = λ u v. (state_of a (text_of alphabet u) ≡ state_of a (text_of alphabet v))
      × (state_of b (text_of alphabet u) ≡ state_of b (text_of alphabet v));
  reflexive = λ u. (refl, refl);
  symmetric = λ u v s. (sym s.0, sym s.1);
  transitive = λ u v w s t. (s.0 ∙ t.0, s.1 ∙ t.1);
  followed = λ u v column in_range s. (
    state_longer alphabet a u column ∙ ap (λ n. state_after a n (least_of alphabet column)) s.0
        ∙ sym (state_longer alphabet a v column),
    state_longer alphabet b u column ∙ ap (λ n. state_after b n (least_of alphabet column)) s.1
        ∙ sym (state_longer alphabet b v column),
  );
}

-- the states to which a word's text leads
pub record ArePair (alphabet : Alphabet) (a b : Automaton) (word : List ℕ)
    (first second : ℕ) : Type 0 where
  pub first_is : first ≡ state_of a (text_of alphabet word)
  pub second_is : second ≡ state_of b (text_of alphabet word)
  pub first_within : first < count a.table
  pub second_within : second < count b.table

pub told_pairs : (alphabet : Alphabet) (a b : Automaton) (u v : List ℕ) (s t : ℕ × ℕ)
    → ArePair alphabet a b u s.0 s.1 → ArePair alphabet a b v t.0 t.1
    → (((s.0 == t.0) && (s.1 == t.1)) ≡ true) ↔ (pairs alphabet a b).same u v
told_pairs alphabet a b u v s t p q = (
  λ e.
      let both = and_parts (s.0 == t.0) (s.1 == t.1) e in (
        sym p.first_is ∙ eqb-true s.0 t.0 both.0 ∙ q.first_is,
        sym p.second_is
            ∙ eqb-true s.1 t.1 both.1 ∙ q.second_is,
      ),
  λ same.
      and_from (s.0 == t.0) (s.1 == t.1) (eq-eqb s.0 t.0 (p.first_is ∙ same.0 ∙ sym q.first_is))
      (eq-eqb s.1 t.1 (p.second_is ∙ same.1 ∙ sym q.second_is)),
)

-- ---- changes

abbrev pub is_change : Way → Verdict → Verdict → Bool
is_change NowPermitted Deny Permit = true
is_change NowPermitted Deny Deny = false
is_change NowPermitted Permit after = false
is_change NowDenied Permit Deny = true
is_change NowDenied Permit Permit = false
is_change NowDenied Deny after = false

-- what the pair of states to which a text leads says of it
pub record Comparison : Type 0 where
  pub old : Automaton
  pub old_verdicts : List Verdict
  pub new : Automaton
  pub new_verdicts : List Verdict
  pub way : Way

abbrev pub changes_at : Comparison → ℕ → ℕ → Bool
changes_at c first second = is_change c.way (verdict_by c.old_verdicts (first_of c.old first))
    (verdict_by c.new_verdicts (first_of c.new second))

unfoldable pub changes : Comparison → List ℕ → Bool
changes c text = changes_at c (state_of c.old text) (state_of c.new text)

pub changes_same : (c : Comparison) (text other : List ℕ)
    → state_of c.old text ≡ state_of c.old other
    → state_of c.new text ≡ state_of c.new other → IsTrue (changes c text)
    → IsTrue (changes c other)
unfolding changes
changes_same c text other p q h = subst (λ n. IsTrue (changes_at c n (state_of c.new other))) p
    (subst (λ n. IsTrue (changes_at c (state_of c.old text) n)) q h)

pub changes_here : (alphabet : Alphabet) (c : Comparison) (word : List ℕ) (first second : ℕ)
    → ArePair alphabet c.old c.new word first second
    → changes_at c first second ≡ changes c (text_of alphabet word)
unfolding changes
changes_here alphabet c word first second p = ap (λ n. changes_at c n second) p.first_is
    ∙ ap (λ n. changes_at c (state_of c.old (text_of alphabet word)) n) p.second_is

-- ---- what stays

abbrev pub comparison_of : Automaton → List Verdict → Automaton → List Verdict → Way → Comparison
comparison_of old old_verdicts new new_verdicts way =
    record {
      old = old;
      old_verdicts = old_verdicts;
      new = new;
      new_verdicts = new_verdicts;
      way = way;
    }

abbrev pub PairKeeps : Alphabet → Automaton → Automaton → Alphabet → Automaton → Automaton → Type 0
PairKeeps al a b am c d =
    Keeps {S = ℕ × ℕ} (pairs al a b) (λ word state. ArePair al a b word state.0 state.1)
    (pairs am c d)
    (λ word state. ArePair am c d word state.0 state.1)

pub pairs_kept : (al am : Alphabet) (a b c d : Automaton) → al ≡ am → a ≡ c → b ≡ d
    → PairKeeps al a b am c d
pairs_kept al am a b c d p q r =
    subst (λ (x : Automaton). PairKeeps al a b am c x) r
    (subst (λ (x : Automaton). PairKeeps al a b am x b) q
    (subst (λ (x : Alphabet). PairKeeps al a b x a b) p
    (keeps_itself (pairs al a b) (λ word state. ArePair al a b word state.0 state.1))))

pub comparing_kept : (al am : Alphabet) (c d : Comparison) → al ≡ am → c ≡ d
    → PairKeeps al c.old c.new am d.old d.new
comparing_kept al am c d p q =
    pairs_kept al am c.old c.new d.old d.new p (ap (λ (x : Comparison). x.old) q)
    (ap (λ (x : Comparison). x.new) q)

pub changes_stay : (al am : Alphabet) (c d : Comparison) → al ≡ am → c ≡ d → (word : List ℕ)
    → IsTrue (changes c (text_of al word)) ↔ IsTrue (changes d (text_of am word))
changes_stay al am c d p q word = (
  λ h. subst (λ (x : Comparison). IsTrue (changes x (text_of am word))) q
      (subst (λ (x : Alphabet). IsTrue (changes c (text_of x word))) p h),
  λ h. subst (λ (x : Comparison). IsTrue (changes x (text_of al word))) (sym q)
      (subst (λ (x : Alphabet). IsTrue (changes d (text_of x word))) (sym p) h),
)
