-- The entries of one automaton, and those of another after them.
use Rattle.std.proofs.Common.{◌≡◌, ◌<◌, ◌≤◌, ◌+◌, ◌-◌, ◌↔◌, ◌⊎◌, ◌||◌, inl, inr, ℕ, zero, suc, Bool, true, false, IsTrue, List, [], ◌∷◌, ◌++◌, Option, None, Some, fold, length, refl, sym, subst, ap, ◌∙◌, append_assoc, append-nil, true≢false, arith}
use Rattle.std.specs.Prelude.{All, Any, IfSome}
use Rattle.std.specs.List.{AllZip}
use Rattle.std.proofs.lemmas.Bool.{cases_lt}
use Rattle.std.proofs.lemmas.List.{get_or_append_left, get_or-append-add, length-append, map_push}
use Rattle.std.proofs.lemmas.List.Sums.{fold_push}
use Rattle.std.proofs.lemmas.List.Elements.{All-append}
use Rattle.basics.specs.Symbol.{is_symbol, is_text}
use Rattle.pol_pattern.specs.Spelling.{Spells, Holds}
use Rattle.pol_scan.specs.Alphabet.{Alphabet, IsAlphabet, SameColumn, HasClasses, column_of, word_of, text_of}
use Rattle.pol_scan.specs.Words.{IsWord, word_at}
use Rattle.pol_scan.specs.Table.{Table, next, walk}
use Rattle.pol_pattern.specs.Flat.{Terms}
use Rattle.pol_residual.specs.Residuals.{any_text, IsSure, SameResiduals}
use Rattle.pol_deriv.proofs.AnyText.{sure_law}
use Rattle.pol_automaton.specs.Decision.{entry_at, IsFirstMatch}
use Rattle.pol_automaton.specs.Automaton.{Automaton, state_of, first_of, is_sure, IsWhole, IsDecider}
use Rattle.pol_automaton.specs.Alike.{AreAlike, HoldsAlike, AllInTerms}
use Rattle.pol_automaton.specs.Pairs.{state_after}
use Rattle.pol_automaton.specs.Joining.{unless_sure, joined_step, joined_after, joined, AreJoined, first_of_both, joined_first, joined_sure}
use Rattle.pol_automaton.proofs.Zips.{zip_length, zip_through}
use Rattle.pol_automaton.proofs.Words.{both as both_parts, from_both, is_word, spells_text}
use Rattle.pol_automaton.proofs.Columns.{Refines, state_spelled}
use Rattle.pol_automaton.proofs.Machines.{TellsResiduals, IsFound, Marks, automaton_of, is_whole, read, kept_word, is_decider}

-- ---- lists joined

front : (P : List ℕ → Type 0) (xs ys : List (List ℕ)) → All P (xs ++ ys) → All P xs
front P xs ys all = λ k d lt. subst P (get_or_append_left xs ys d k lt) (all k d (omega (arith, length-append xs ys)))

back : (P : List ℕ → Type 0) (xs ys : List (List ℕ)) → All P (xs ++ ys) → All P ys
back P xs ys all = λ k d lt. subst P (get_or-append-add xs ys k d) (all (length xs + k) d (omega (arith, length-append xs ys)))

-- no class of the source tells the symbols apart
abbrev OneAlike : ℕ → ℕ → List ℕ → Type 0
OneAlike x y source = (flat : Terms) → Spells source flat → AllInTerms (HoldsAlike x y) flat

-- the same of both, or of the first, where one of these is sure
abbrev SameOfBoth : List (List ℕ) → List (List ℕ) → List ℕ → List ℕ → Type 0
SameOfBoth e f text other = SameResiduals e text other × (Any (λ source. IsSure source text) e ⊎ SameResiduals f text other)

any_first : (P : List ℕ → Type 0) (x : List ℕ) (xs : List (List ℕ)) → P x → Any P (x ∷ xs)
any_first P x xs p = (0, x, omega arith, refl, p)

any_later : (P : List ℕ → Type 0) (x : List ℕ) (xs : List (List ℕ)) → Any P xs → Any P (x ∷ xs)
any_later P x xs any = (suc any.0, any.1, omega (arith, any.2), any.3, any.4)

any_cases : (P : List ℕ → Type 0) (x : List ℕ) (xs : List (List ℕ)) → Any P (x ∷ xs) → P x ⊎ Any P xs
any_cases P x xs (zero, y, lt, at, p) = inl (subst P (sym at) p)
any_cases P x xs (suc k, y, lt, at, p) = inr (k, y, omega arith, at, p)

any_front : (P : List ℕ → Type 0) (xs ys : List (List ℕ)) → Any P xs → Any P (xs ++ ys)
any_front P xs ys any = (any.0, any.1, omega (arith, any.2, length-append xs ys), get_or_append_left xs ys any.1 any.0 any.2 ∙ any.3, any.4)

any_back : (P : List ℕ → Type 0) (xs ys : List (List ℕ)) → Any P ys → Any P (xs ++ ys)
any_back P [] ys any = any
any_back P (x ∷ xs) ys any = any_later P x (xs ++ ys) (any_back P xs ys any)

any_of_both : (P : List ℕ → Type 0) (xs ys : List (List ℕ)) → Any P (xs ++ ys) → Any P xs ⊎ Any P ys
any_of_both P [] ys any = inr any
any_of_both P (x ∷ xs) ys any =
    elim (any_cases P x (xs ++ ys) any) [
      | inl p ↦ inl (any_first P x xs p)
      | inr more ↦ elim (any_of_both P xs ys more) [ inl q ↦ inl (any_later P x xs q) | inr q ↦ inr q ]
    ]

same_joined : (e f : List (List ℕ)) (text other : List ℕ) → SameResiduals (e ++ f) text other → SameOfBoth e f text other
same_joined [] f text other same = (tt, inr same)
same_joined (source ∷ e) f text other (inl sure) = (inl sure, inl (any_first (λ s. IsSure s text) source e sure.0))
same_joined (source ∷ e) f text other (inr same) =
    let w = same_joined e f text other same.1 in
    (inr (same.0, w.0), elim w.1 [ inl any ↦ inl (any_later (λ s. IsSure s text) source e any) | inr more ↦ inr more ])

same_parted : (e f : List (List ℕ)) (text other : List ℕ) → SameOfBoth e f text other → SameResiduals (e ++ f) text other
same_parted [] f text other (same, inl any) = absurd (omega (arith, any.2))
same_parted [] f text other (same, inr more) = more
same_parted (source ∷ e) f text other (inl sure, more) = inl sure
same_parted (source ∷ e) f text other (inr same, inr more) = inr (same.0, same_parted e f text other (same.1, inr more))
same_parted (source ∷ e) f text other (inr same, inl any) =
    elim (any_cases (λ s. IsSure s text) source e any) [
      | inl sure ↦ inl (sure, (same.0 any_text).0 sure)
      | inr later ↦ inr (same.0, same_parted e f text other (same.1, inl later))
    ]

pub match_joined : (e f : List (List ℕ)) (text : List ℕ) (a b : Option ℕ) → IsFirstMatch e text a → IsFirstMatch f text b → IsFirstMatch (e ++ f) text (first_of_both (length e) a b)
match_joined e f text (Some i) b p q = (
  omega (arith, p.0, length-append e f),
  subst (λ (s : List ℕ). Holds s text) (sym (get_or_append_left e f [] i p.0)) p.1,
  λ k lt held. p.2 k lt (subst (λ (s : List ℕ). Holds s text) (get_or_append_left e f [] k (omega (arith, p.0))) held),
)
match_joined e f text None None p q = All-append (λ source. ¬ (Holds source text)) e f p q
match_joined e f text None (Some j) p q = (
  omega (arith, q.0, length-append e f),
  subst (λ (s : List ℕ). Holds s text) (sym (get_or-append-add e f j [])) q.1,
  λ k lt held. by k lt held (cases_lt k (length e)),
)
  where
    by : (k : ℕ) → k < length e + j → Holds (entry_at (e ++ f) k) text → (k < length e) ⊎ (length e ≤ k) → ⊥
    by k lt held (inl early) = p k [] early (subst (λ (s : List ℕ). Holds s text) (get_or_append_left e f [] k early) held)
    by k lt held (inr late) =
        let at : length e + (k - length e) ≡ k = omega arith in
        q.2 (k - length e) (omega arith)
        (subst (λ (s : List ℕ). Holds s text) (get_or-append-add e f (k - length e) []) (subst (λ (n : ℕ). Holds (entry_at (e ++ f) n) text) (sym at) held))

-- ---- what the scan finds

pub record IsJoined (alphabet : Alphabet) (a b : Automaton) (table : Table) (states : List (ℕ × ℕ)) (marks : Marks) : Type 0 where
  pub letters : IsAlphabet alphabet
  pub first : Refines alphabet a.alphabet
  pub second : Refines alphabet b.alphabet
  pub found : IsFound (joined alphabet a b) table
  pub led : AllZip (λ word s. AreJoined alphabet a b word s.0 s.1) table.words states
  pub matched : AllZip (λ s found. found ≡ joined_first a b s.0 s.1) states marks.firsts
  pub sure : AllZip (λ s sure. sure ≡ joined_sure a b s.0 s.1) states marks.sures

abbrev pub joined_of : Alphabet → Automaton → Automaton → Table → Marks → Automaton
joined_of alphabet a b table marks = automaton_of alphabet table marks (a.entries + b.entries)

below_both : (m n i : ℕ) (x y : Option ℕ) → ((j : ℕ) → x ≡ Some j → j < m) → ((j : ℕ) → y ≡ Some j → j < n) → first_of_both m x y ≡ Some i → i < m + n
below_both m n i (Some j) y p q e = let same : j ≡ i = cc in omega (arith, p j refl)
below_both m n i None None p q e = absurd cc
below_both m n i None (Some j) p q e = let same : m + j ≡ i = cc in omega (arith, q j refl)

pub whole_joined : (alphabet : Alphabet) (a b : Automaton) (table : Table) (states : List (ℕ × ℕ)) (marks : Marks) → IsWhole a → IsWhole b → IsJoined alphabet a b table states marks
    → IsWhole (joined_of alphabet a b table marks)
whole_joined alphabet a b table states marks p q s =
    is_whole alphabet (joined alphabet a b) table marks (a.entries + b.entries) s.letters refl s.found.automaton
    (sym (zip_length _ table.words states s.led ∙ zip_length _ states marks.firsts s.matched))
    (sym (zip_length _ table.words states s.led ∙ zip_length _ states marks.sures s.sure))
    (λ state i lt is.
    let there = zip_through _ _ table.words states marks.firsts state [] None s.led s.matched lt in
    below_both a.entries b.entries i (first_of a there.0.0) (first_of b there.0.1)
    (λ j. p.below there.0.0 j there.1.first_within) (λ j. q.below there.0.1 j there.1.second_within) (sym there.2 ∙ is))

-- columns of both
abbrev pub OfBoth : Alphabet → Alphabet → Alphabet → Type 0
OfBoth alphabet first second = HasClasses alphabet (λ x y. SameColumn first x y × SameColumn second x y)

pub first_refined : (alphabet first second : Alphabet) → OfBoth alphabet first second → Refines alphabet first
first_refined alphabet first second both x y p q h = ((both x y p q).0 h).0

pub second_refined : (alphabet first second : Alphabet) → OfBoth alphabet first second → Refines alphabet second
second_refined alphabet first second both x y p q h = ((both x y p q).0 h).1

text_push : (text : List ℕ) (symbol : ℕ) → IsTrue (is_text text) → IsTrue (is_symbol symbol) → IsTrue (is_text (text ++ symbol ∷ []))
text_push [] symbol h k = from_both (is_symbol symbol) true k refl
text_push (first ∷ text) symbol h k =
    let p = both_parts (is_symbol first) (is_text text) h in from_both (is_symbol first) (is_text (text ++ symbol ∷ [])) p.0 (text_push text symbol p.1 k)

pair_is : (a b c d : ℕ) → a ≡ c → b ≡ d → ◌≡◌ {A = ℕ × ℕ} (a, b) (c, d)
pair_is a b c d p q = cc

module _ (alphabet : Alphabet) (letters : IsAlphabet alphabet) (a b : Automaton) (both : OfBoth alphabet a.alphabet b.alphabet) (e f : List (List ℕ))
    (d : IsDecider a e) (g : IsDecider b f) where
  -- a class of the entries is one of the first, or of the others
  classes_joined : HasClasses alphabet (AreAlike (e ++ f))
  classes_joined x y p q =
      let columns = both x y p q in
      let first = d.classes x y p q in
      let second = g.classes x y p q in (
        λ h. let w = columns.0 h in All-append (OneAlike x y) e f (first.0 w.0) (second.0 w.1),
        λ alike. columns.1 (first.1 (front (OneAlike x y) e f alike), second.1 (back (OneAlike x y) e f alike)),
      )

  -- ---- the states to which a text leads

  abbrev pub both_after : List ℕ → ℕ × ℕ
  both_after text = (state_of a text, unless_sure (is_sure a (state_of a text)) (state_of b text))

  -- where an entry of the first is sure, one still is by a symbol more
  sure_longer : (text : List ℕ) (symbol : ℕ) → IsTrue (is_text text) → IsTrue (is_symbol symbol) → IsTrue (is_sure a (state_of a text)) → IsTrue (is_sure a (state_of a (text ++ symbol ∷ [])))
  sure_longer text symbol h k sure =
      let any = (d.sures text h).0 sure in
      let more = from_both (is_symbol symbol) true k refl in
      (d.sures (text ++ symbol ∷ []) (text_push text symbol h k)).1
      (any.0, any.1, any.2, any.3, (sure_law any.1 text (symbol ∷ []) more any.4).1)

  state_longer_by : (x : Automaton) (text : List ℕ) (symbol : ℕ) → state_of x (text ++ symbol ∷ []) ≡ state_after x (state_of x text) symbol
  state_longer_by x text symbol =
      ap (walk x.table) (map_push (column_of x.alphabet) text symbol) ∙ fold_push (next x.table) 0 (word_of x.alphabet text) (column_of x.alphabet symbol)

  step_both : (text : List ℕ) (symbol : ℕ) → IsTrue (is_text text) → IsTrue (is_symbol symbol) → joined_step a b (both_after text) symbol ≡ both_after (text ++ symbol ∷ [])
  step_both text symbol h k = by (is_sure a (state_of a text)) refl
    where
      reached : state_after a (state_of a text) symbol ≡ state_of a (text ++ symbol ∷ [])
      reached = sym (state_longer_by a text symbol)

      by : (sure : Bool) → is_sure a (state_of a text) ≡ sure → joined_step a b (both_after text) symbol ≡ both_after (text ++ symbol ∷ [])
      by true is =
          let now = sure_longer text symbol h k is in
          pair_is _ _ _ _ reached
          (ap (λ n. unless_sure (is_sure a n) (state_after b (unless_sure (is_sure a (state_of a text)) (state_of b text)) symbol)) reached
          ∙ ap (λ sure. unless_sure sure (state_after b (unless_sure (is_sure a (state_of a text)) (state_of b text)) symbol)) now
          ∙ sym (ap (λ sure. unless_sure sure (state_of b (text ++ symbol ∷ []))) now))
      by false is =
          pair_is _ _ _ _ reached
          (ap (λ n. unless_sure (is_sure a n) (state_after b (unless_sure (is_sure a (state_of a text)) (state_of b text)) symbol)) reached
          ∙ ap (λ sure. unless_sure (is_sure a (state_of a (text ++ symbol ∷ []))) (state_after b (unless_sure sure (state_of b text)) symbol)) is
          ∙ ap (unless_sure (is_sure a (state_of a (text ++ symbol ∷ [])))) (sym (state_longer_by b text symbol)))

  both_from : (done text : List ℕ) → IsTrue (is_text done) → IsTrue (is_text text) → fold (joined_step a b) (both_after done) text ≡ both_after (done ++ text)
  both_from done [] h k = sym (ap both_after (append-nil done))
  both_from done (symbol ∷ text) h k =
      let p = both_parts (is_symbol symbol) (is_text text) k in
      ap (λ (pair : ℕ × ℕ). fold (joined_step a b) pair text) (step_both done symbol h p.0)
      ∙ both_from (done ++ symbol ∷ []) text (text_push done symbol h p.0) p.1 ∙ ap both_after (append_assoc done (symbol ∷ []) text)

  pub joined_is : (text : List ℕ) → IsTrue (is_text text) → joined_after a b text ≡ both_after text
  joined_is text h = ap (λ (pair : ℕ × ℕ). fold (joined_step a b) pair text) (at_start (is_sure a 0)) ∙ both_from [] text refl h
    where
      at_start : (sure : Bool) → ◌≡◌ {A = ℕ × ℕ} (0, 0) (0, unless_sure sure 0)
      at_start true = refl
      at_start false = refl

  -- ---- texts that lead to the same

  same_texts : (text other : List ℕ) → IsTrue (is_text text) → IsTrue (is_text other) → (both_after text ≡ both_after other) ↔ SameResiduals (e ++ f) text other
  same_texts text other t o = (to, from)
    where
      one : (state_of a text ≡ state_of a other) ↔ SameResiduals e text other
      one = d.tells text other t o

      two : (state_of b text ≡ state_of b other) ↔ SameResiduals f text other
      two = g.tells text other t o

      to : both_after text ≡ both_after other → SameResiduals (e ++ f) text other
      to same = same_parted e f text other (one.0 states, by (is_sure a (state_of a text)) refl)
        where
          states : state_of a text ≡ state_of a other
          states = ap (λ (pair : ℕ × ℕ). pair.0) same

          by : (sure : Bool) → is_sure a (state_of a text) ≡ sure → Any (λ source. IsSure source text) e ⊎ SameResiduals f text other
          by true is = inl ((d.sures text t).0 is)
          by false is =
              let there : is_sure a (state_of a other) ≡ false = sym (ap (is_sure a) states) ∙ is in
              inr (two.0
              (sym (ap (λ sure. unless_sure sure (state_of b text)) is) ∙ ap (λ (pair : ℕ × ℕ). pair.1) same ∙ ap (λ sure. unless_sure sure (state_of b other)) there))

      from : SameResiduals (e ++ f) text other → both_after text ≡ both_after other
      from same = at w.1
        where
          w : SameOfBoth e f text other
          w = same_joined e f text other same

          states : state_of a text ≡ state_of a other
          states = one.1 w.0

          at : Any (λ source. IsSure source text) e ⊎ SameResiduals f text other → both_after text ≡ both_after other
          at (inl any) =
              let is : is_sure a (state_of a text) ≡ true = (d.sures text t).1 any in
              let there : is_sure a (state_of a other) ≡ true = sym (ap (is_sure a) states) ∙ is in
              pair_is _ _ _ _ states (ap (λ sure. unless_sure sure (state_of b text)) is ∙ sym (ap (λ sure. unless_sure sure (state_of b other)) there))
          at (inr more) =
              pair_is _ _ _ _ states (ap (λ n. unless_sure (is_sure a n) (state_of b text)) states ∙ ap (unless_sure (is_sure a (state_of a other))) (two.1 more))

  same_words : (u v : List ℕ) → IsWord alphabet.width u → IsWord alphabet.width v
      → (joined alphabet a b).same u v ↔ SameResiduals (e ++ f) (text_of alphabet u) (text_of alphabet v)
  same_words u v p q =
      let t = spells_text alphabet letters u p in
      let o = spells_text alphabet letters v q in
      let same = same_texts (text_of alphabet u) (text_of alphabet v) t o in
      let at = joined_is (text_of alphabet u) t in
      let there = joined_is (text_of alphabet v) o in
      (λ s. same.0 (sym at ∙ s ∙ there), λ s. at ∙ same.1 s ∙ sym there)

  pub tells_joined : TellsResiduals alphabet (joined alphabet a b) (e ++ f)
  tells_joined = record { letters = letters; columns = refl; same = same_words; classes = classes_joined }

  -- ---- what is known of them

  -- where an entry of the first is sure, the first match is one of them
  match_both : (text : List ℕ) → IsTrue (is_text text) → IsFirstMatch (e ++ f) text (first_of_both (length e) (first_of a (state_of a text)) (first_of b (both_after text).1))
  match_both text h = by (is_sure a (state_of a text)) refl
    where
      by : (sure : Bool) → is_sure a (state_of a text) ≡ sure → IsFirstMatch (e ++ f) text (first_of_both (length e) (first_of a (state_of a text)) (first_of b (both_after text).1))
      by false is =
          subst (λ n. IsFirstMatch (e ++ f) text (first_of_both (length e) (first_of a (state_of a text)) (first_of b n)))
          (sym (ap (λ sure. unless_sure sure (state_of b text)) is))
          (match_joined e f text (first_of a (state_of a text)) (first_of b (state_of b text)) (d.firsts text h) (g.firsts text h))
      by true is =
          let any = (d.sures text h).0 is in
          let held = subst (Holds any.1) (append-nil text) (sure_law any.1 text [] refl any.4).0 in
          of_first (first_of a (state_of a text)) (first_of b (state_of b text)) (first_of b (both_after text).1) any held (d.firsts text h) (g.firsts text h)
        where
          of_first : (first other any_other : Option ℕ) (any : Any (λ source. IsSure source text) e) → Holds any.1 text → IsFirstMatch e text first → IsFirstMatch f text other
              → IsFirstMatch (e ++ f) text (first_of_both (length e) first any_other)
          of_first None other any_other any held p q = absurd (p any.0 any.1 any.2 (subst (λ s. Holds s text) (sym any.3) held))
          of_first (Some i) other any_other any held p q = match_joined e f text (Some i) other p q

  sure_both : (text : List ℕ) → IsTrue (is_text text) → IsTrue (is_sure a (state_of a text) || is_sure b (both_after text).1) ↔ Any (λ source. IsSure source text) (e ++ f)
  sure_both text h = by (is_sure a (state_of a text)) refl
    where
      by : (sure : Bool) → is_sure a (state_of a text) ≡ sure → IsTrue (is_sure a (state_of a text) || is_sure b (both_after text).1) ↔ Any (λ source. IsSure source text) (e ++ f)
      by true is =
          (λ _. any_front (λ s. IsSure s text) e f ((d.sures text h).0 is), λ _. ap (λ sure. sure || is_sure b (both_after text).1) is)
      by false is =
          let second : (both_after text).1 ≡ state_of b text = ap (λ sure. unless_sure sure (state_of b text)) is in
          let whole : (is_sure a (state_of a text) || is_sure b (both_after text).1) ≡ is_sure b (state_of b text) =
          ap (λ sure. sure || is_sure b (both_after text).1) is ∙ ap (is_sure b) second in (
            λ yes. any_back (λ s. IsSure s text) e f ((g.sures text h).0 (sym whole ∙ yes)),
            λ any. whole ∙ elim (any_of_both (λ s. IsSure s text) e f any) [
              | inl own ↦ absurd (true≢false (sym ((d.sures text h).1 own) ∙ is))
              | inr other ↦ (g.sures text h).1 other
            ],
          )

  module _ (table : Table) (states : List (ℕ × ℕ)) (marks : Marks) (s : IsJoined alphabet a b table states marks) where
    -- the pair that is kept for a text's state is the pair to which the text leads
    pair_at : (text : List ℕ) → IsTrue (is_text text) → joined_after a b (text_of alphabet (word_at table.words (walk table (word_of alphabet text)))) ≡ both_after text
    pair_at text h =
        let spelt = text_of alphabet (word_of alphabet text) in
        let is = spells_text alphabet letters (word_of alphabet text) (is_word alphabet letters text h) in
        sym (kept_word alphabet (joined alphabet a b) (e ++ f) tells_joined table s.found text h) ∙ joined_is spelt is
        ∙ pair_is _ _ _ _ (state_spelled alphabet letters a s.first text h)
        (ap (λ n. unless_sure (is_sure a n) (state_of b spelt)) (state_spelled alphabet letters a s.first text h)
        ∙ ap (unless_sure (is_sure a (state_of a text))) (state_spelled alphabet letters b s.second text h))

    in_range : (text : List ℕ) → IsTrue (is_text text) → walk table (word_of alphabet text) < length table.words
    in_range text h = s.found.automaton.within (word_of alphabet text) (read alphabet (joined alphabet a b) (e ++ f) tells_joined text h)

    firsts_joined : (text : List ℕ) → IsTrue (is_text text)
        → IsFirstMatch (e ++ f) text (first_of (joined_of alphabet a b table marks) (state_of (joined_of alphabet a b table marks) text))
    firsts_joined text h =
        let state = walk table (word_of alphabet text) in
        let there = zip_through _ _ table.words states marks.firsts state [] None s.led s.matched (in_range text h) in
        let at_a : there.0.0 ≡ state_of a text = there.1.first_is ∙ ap (λ (pair : ℕ × ℕ). pair.0) (pair_at text h) in
        let at_b : there.0.1 ≡ (both_after text).1 = there.1.second_is ∙ ap (λ (pair : ℕ × ℕ). pair.1) (pair_at text h) in
        let is : first_of (joined_of alphabet a b table marks) state
        ≡ first_of_both (length e) (first_of a (state_of a text)) (first_of b (both_after text).1) =
        there.2 ∙ ap (λ n. first_of_both n (first_of a there.0.0) (first_of b there.0.1)) d.many
        ∙ ap (λ n. first_of_both (length e) (first_of a n) (first_of b there.0.1)) at_a
        ∙ ap (λ n. first_of_both (length e) (first_of a (state_of a text)) (first_of b n)) at_b in
        subst (IsFirstMatch (e ++ f) text) (sym is) (match_both text h)

    sures_joined : (text : List ℕ) → IsTrue (is_text text)
        → IsTrue (is_sure (joined_of alphabet a b table marks) (state_of (joined_of alphabet a b table marks) text)) ↔ Any (λ source. IsSure source text) (e ++ f)
    sures_joined text h =
        let state = walk table (word_of alphabet text) in
        let there = zip_through _ _ table.words states marks.sures state [] false s.led s.sure (in_range text h) in
        let at_a : there.0.0 ≡ state_of a text = there.1.first_is ∙ ap (λ (pair : ℕ × ℕ). pair.0) (pair_at text h) in
        let at_b : there.0.1 ≡ (both_after text).1 = there.1.second_is ∙ ap (λ (pair : ℕ × ℕ). pair.1) (pair_at text h) in
        let is : is_sure (joined_of alphabet a b table marks) state ≡ (is_sure a (state_of a text) || is_sure b (both_after text).1) =
        there.2 ∙ ap (λ n. is_sure a n || is_sure b there.0.1) at_a ∙ ap (λ n. is_sure a (state_of a text) || is_sure b n) at_b in
        let whole = sure_both text h in
        (λ yes. whole.0 (sym is ∙ yes), λ any. is ∙ whole.1 any)

    pub is_joined : IsDecider (joined_of alphabet a b table marks) (e ++ f)
    is_joined =
        is_decider alphabet (joined alphabet a b) (e ++ f) tells_joined table s.found marks (a.entries + b.entries)
        (omega (arith, length-append e f, d.many, g.many)) firsts_joined sures_joined

pub if_some_from : (P : ℕ → Type 0) (o : Option ℕ) → ((i : ℕ) → o ≡ Some i → P i) → IfSome o P
if_some_from P None each = tt
if_some_from P (Some i) each = each i refl
