-- Two automata that read one text, of which the second has the entries after those of the first.
-- Once an entry of the first is sure those decide nothing, and the second is put back to its start.
use Rattle.std.specs.Prelude.{◌≡◌, ◌↔◌, ◌<◌, ◌&&◌, ◌||◌, ◌==◌, ◌+◌, ℕ, Bool, true, false, Option}
use Rattle.std.specs.Prelude.{None, Some, List, fold, refl}
use Rattle.std.proofs.Common.{sym, ap, subst, ◌∙◌}
use Rattle.std.proofs.lemmas.Bool.{and_parts, and_from, eqb-true, eq-eqb}
use Rattle.std.specs.List.{AllZip}
use Rattle.std.proofs.lemmas.List.{map_push}
use Rattle.std.proofs.lemmas.List.Sums.{fold_push}
use Rattle.pol_scan.specs.Alphabet.{Alphabet, least_of, text_of}
use Rattle.pol_scan.specs.Words.{longer}
use Rattle.pol_scan.specs.Table.{count}
use Rattle.pol_scan.specs.Congruence.{Congruence, Keeps, keeps_itself}
use Rattle.pol_automaton.specs.Automaton.{Automaton, first_of, is_sure}
use Rattle.pol_automaton.specs.Pairs.{state_after}

-- the state, or the start once an entry of the first is sure
abbrev pub unless_sure : Bool → ℕ → ℕ
unless_sure true state = 0
unless_sure false state = state

-- the states to which states and a symbol lead
abbrev pub joined_step : Automaton → Automaton → ℕ × ℕ → ℕ → ℕ × ℕ
joined_step a b pair symbol = (
  state_after a pair.0 symbol,
  unless_sure (is_sure a (state_after a pair.0 symbol)) (state_after b pair.1 symbol),
)

-- the states to which a text leads
abbrev pub joined_after : Automaton → Automaton → List ℕ → ℕ × ℕ
joined_after a b text = fold (joined_step a b) (0, 0) text

pub joined_longer : (alphabet : Alphabet) (a b : Automaton) (word : List ℕ) (column : ℕ)
    → joined_after a b (text_of alphabet (longer word column))
    ≡ joined_step a b (joined_after a b (text_of alphabet word)) (least_of alphabet column)
joined_longer alphabet a b word column =
    ap (joined_after a b) (map_push (least_of alphabet) word column)
    ∙ fold_push (joined_step a b) (0, 0) (text_of alphabet word) (least_of alphabet column)

-- words are the same if their texts lead to the same states
abbrev pub joined : Alphabet → Automaton → Automaton → Congruence
joined alphabet a b = record {
  width = alphabet.width;
  same = λ u v. joined_after a b (text_of alphabet u) ≡ joined_after a b (text_of alphabet v);
  reflexive = λ u. refl;
  symmetric = λ u v s. sym s;
  transitive = λ u v w s t. s ∙ t;
  followed = λ u v column in_range s.
      joined_longer alphabet a b u column
      ∙ ap (λ (pair : ℕ × ℕ). joined_step a b pair (least_of alphabet column)) s
      ∙ sym (joined_longer alphabet a b v column);
}

-- the states to which a word's text leads
pub record AreJoined (alphabet : Alphabet) (a b : Automaton) (word : List ℕ)
    (first second : ℕ) : Type 0 where
  pub first_is : first ≡ (joined_after a b (text_of alphabet word)).0
  pub second_is : second ≡ (joined_after a b (text_of alphabet word)).1
  pub first_within : first < count a.table
  pub second_within : second < count b.table

both_same : (s t : ℕ × ℕ) → s.0 ≡ t.0 → s.1 ≡ t.1 → s ≡ t
both_same (a, b) (c, d) p q = cc

pub told_joined : (alphabet : Alphabet) (a b : Automaton) (u v : List ℕ) (s t : ℕ × ℕ)
    → AreJoined alphabet a b u s.0 s.1 → AreJoined alphabet a b v t.0 t.1
    → (((s.0 == t.0) && (s.1 == t.1)) ≡ true) ↔ (joined alphabet a b).same u v
told_joined alphabet a b u v s t p q = (
  λ e.
      let both = and_parts (s.0 == t.0) (s.1 == t.1) e in
      both_same (joined_after a b (text_of alphabet u)) (joined_after a b (text_of alphabet v))
      (sym p.first_is ∙ eqb-true s.0 t.0 both.0 ∙ q.first_is)
      (sym p.second_is ∙ eqb-true s.1 t.1 both.1 ∙ q.second_is),
  λ same.
      and_from (s.0 == t.0) (s.1 == t.1)
      (eq-eqb s.0 t.0 (p.first_is ∙ ap (λ (pair : ℕ × ℕ). pair.0) same ∙ sym q.first_is))
      (eq-eqb s.1 t.1 (p.second_is ∙ ap (λ (pair : ℕ × ℕ). pair.1) same ∙ sym q.second_is)),
)

-- ---- what is known of the states

-- the first match among entries and others after them
abbrev pub first_of_both : ℕ → Option ℕ → Option ℕ → Option ℕ
first_of_both many (Some i) other = Some i
first_of_both many None None = None
first_of_both many None (Some j) = Some (many + j)

abbrev pub joined_first : Automaton → Automaton → ℕ → ℕ → Option ℕ
joined_first a b first second = first_of_both a.entries (first_of a first) (first_of b second)

-- an entry of either is sure
abbrev pub joined_sure : Automaton → Automaton → ℕ → ℕ → Bool
joined_sure a b first second = is_sure a first || is_sure b second

-- ---- what stays

abbrev pub JoinedKeeps : Alphabet → Automaton → Automaton → Alphabet → Automaton → Automaton
    → Type 0
JoinedKeeps al a b am c d =
    Keeps {S = ℕ × ℕ} (joined al a b) (λ word state. AreJoined al a b word state.0 state.1)
    (joined am c d)
    (λ word state. AreJoined am c d word state.0 state.1)

pub joined_kept : (al am : Alphabet) (a b c d : Automaton) → al ≡ am → a ≡ c → b ≡ d
    → JoinedKeeps al a b am c d
joined_kept al am a b c d p q r =
    subst (λ (x : Automaton). JoinedKeeps al a b am c x) r
    (subst (λ (x : Automaton). JoinedKeeps al a b am x b) q
    (subst (λ (x : Alphabet). JoinedKeeps al a b x a b) p
    (keeps_itself (joined al a b) (λ word state. AreJoined al a b word state.0 state.1))))

-- what was led by the one is led by the other
pub led_back : (al am : Alphabet) (a b c d : Automaton) → al ≡ am → a ≡ c → b ≡ d
    → (words : List (List ℕ)) (states : List (ℕ × ℕ))
    → AllZip (λ word s. AreJoined am c d word s.0 s.1) words states
    → AllZip (λ word s. AreJoined al a b word s.0 s.1) words states
led_back al am a b c d p q r words states led =
    subst (λ (x : Alphabet). AllZip (λ word s. AreJoined x a b word s.0 s.1) words states) (sym p)
    (subst (λ (x : Automaton). AllZip (λ word s. AreJoined am x b word s.0 s.1) words states) (sym q)
    (subst (λ (x : Automaton). AllZip (λ word s. AreJoined am c x word s.0 s.1) words states)
    (sym r) led))
