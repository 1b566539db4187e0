-- What the scan of entries finds is the Decider of them.
use Rattle.std.proofs.Common.{◌≡◌, ◌<◌, ◌≤◌, ◌↔◌, ◌⊎◌, inl, inr, ℕ, zero, suc, IsTrue, List, [], ◌∷◌, ◌++◌, Option, None, Some, length, refl, sym, subst, ◌∙◌, append-nil, false, arith}
use Rattle.std.specs.Prelude.{Any}
use Rattle.std.specs.List.{AllZip}
use Rattle.std.specs.Global.{Vec}
use Rattle.std.proofs.lemmas.Bool.{cases_lt}
use Rattle.std.proofs.lemmas.List.{get_or_default}
use Rattle.std.proofs.lemmas.List.Elements.{All-contains}
use Rattle.basics.specs.Symbol.{is_text}
use Rattle.pol_pattern.specs.Flat.{Term}
use Rattle.pol_pattern.specs.Spelling.{Holds}
use Rattle.pol_residual.specs.Residuals.{any_text, IsSure, SameResiduals}
use Rattle.pol_deriv.proofs.AnyText.{any_holds}
use Rattle.pol_scan.specs.Alphabet.{word_of, text_of}
use Rattle.pol_scan.specs.Words.{word_at}
use Rattle.pol_scan.specs.Table.{Table, walk}
use Rattle.pol_automaton.specs.declared.entry_term.EntryTerm.{EntryTerm}
use Rattle.pol_automaton.specs.After.{After}
use Rattle.pol_automaton.specs.Cutting.{TermSets, Counts, IsSureOrNot, counts_alike}
use Rattle.pol_automaton.specs.Decision.{entry_at, IsFirstMatch}
use Rattle.pol_automaton.specs.Automaton.{Automaton, state_of, first_of, is_sure, IsWhole, IsDecider}
use Rattle.pol_automaton.specs.Scanning.{item_of, HasTerm, LeadsTo, residuals}
use Rattle.pol_automaton.specs.Entries.{Entries, AreWhole, AreEntries, GrowsTo}
use Rattle.pol_automaton.specs.Matching.{Accepts, IsFirstAccepted}
use Rattle.pol_automaton.specs.Telling.{after_grown}
use Rattle.pol_automaton.proofs.Zips.{zip_length, zip_through}
use Rattle.pol_automaton.proofs.Counting.{same_symmetric, same_transitive}
use Rattle.pol_automaton.proofs.SameMatch.{same_match}
use Rattle.pol_automaton.proofs.Machines.{TellsResiduals, IsFound, Marks, automaton_of, is_whole, read, spelled_same, kept_word, is_decider}
use Rattle.pol_automaton.proofs.AfterText.{sets_after, same_after, after_is, holds_after, after_none, after_some}

-- ---- what the scan finds

pub record IsScanned (e now : Entries) (table : Table) (states : List (Vec EntryTerm)) (marks : Marks) : Type 0 where
  pub whole : AreWhole e
  pub grows : GrowsTo e now
  pub found : IsFound (residuals e.alphabet e.terms e.start) table
  pub led : AllZip (λ word state. LeadsTo now.alphabet now.terms now.start word state.items) table.words states
  pub matched : AllZip (λ state first. IsFirstAccepted now.terms state.items first) states marks.firsts
  pub sure : AllZip (λ state sure. IsTrue sure ↔ ((entry : ℕ) × HasTerm now.terms state.items entry any_text)) states marks.sures

abbrev pub decider_of : Entries → Table → Marks → Automaton
decider_of e table marks = automaton_of e.alphabet table marks e.count

pub whole_decider : (e now : Entries) (table : Table) (states : List (Vec EntryTerm)) (marks : Marks)
    → IsScanned e now table states marks → IsWhole (decider_of e table marks)
whole_decider e now table states marks s =
    is_whole e.alphabet (residuals e.alphabet e.terms e.start) table marks e.count s.whole.letters refl s.found.automaton
    (sym (zip_length _ table.words states s.led ∙ zip_length _ states marks.firsts s.matched))
    (sym (zip_length _ table.words states s.led ∙ zip_length _ states marks.sures s.sure))
    (λ state i lt is.
    let there = zip_through _ _ table.words states marks.firsts state [] None s.led s.matched lt in
    let accepts : Accepts now.terms there.0.items i = (subst (IsFirstAccepted now.terms there.0.items) is there.2).0 in
    let after = (after_grown e now s.grows (word_at table.words state) i accepts.0).1 ((there.1.members i accepts.0).0 accepts.1).0 in
    let first = after_some (HasTerm e.terms e.start i) (text_of e.alphabet (word_at table.words state)) accepts.0 after in
    All-contains (λ (x : EntryTerm). x.entry < e.count) e.start (item_of i first.1.0) s.whole.below first.1.1)

pub tells_residuals : (e : Entries) (sources : List (List ℕ)) → AreWhole e → AreEntries e sources
    → TellsResiduals e.alphabet (residuals e.alphabet e.terms e.start) sources
tells_residuals e sources whole are = record {
  letters = whole.letters;
  columns = refl;
  same = λ u v p q. same_after e sources whole are (text_of e.alphabet u) (text_of e.alphabet v);
  classes = are.classes;
}

-- ---- one that the same residuals have sure

sure_in : (sources : List (List ℕ)) (text other : List ℕ) → SameResiduals sources text other → Any (λ source. IsSure source text) sources → Any (λ source. IsSure source other) sources
sure_in [] text other same any = absurd (omega (arith, any.2))
sure_in (source ∷ sources) text other (inl sure) any = (0, source, omega arith, refl, sure.1)
sure_in (source ∷ sources) text other (inr same) (zero, x, lt, at, sure) =
    (0, source, omega arith, refl, (same.0 any_text).0 (subst (λ s. IsSure s text) (sym at) sure))
sure_in (source ∷ sources) text other (inr same) (suc k, x, lt, at, sure) =
    let w = sure_in sources text other same.1 (k, x, omega arith, at, sure) in
    (suc w.0, w.1, omega (arith, w.2), w.3, w.4)

module _ (e : Entries) (sources : List (List ℕ)) (whole : AreWhole e) (are : AreEntries e sources) where
  -- items that a text leads to
  module _ (table : List Term) (items : List EntryTerm) (text : List ℕ)
      (has : (entry : ℕ) (term : Term) → HasTerm table items entry term ↔ Counts (sets_after e text) entry term)
      (decided : (entry : ℕ) → IsSureOrNot (HasTerm table items) entry) where
    within : (entry : ℕ) (term : Term) → sets_after e text entry term → entry < length sources
    within entry term h = by (cases_lt entry (length sources))
      where
        by : (entry < length sources) ⊎ (length sources ≤ entry) → entry < length sources
        by (inl lt) = lt
        by (inr le) = absurd (after_none e sources whole are entry le text term h)

    -- a sure entry among the first so many, or none of them is
    abbrev Before : ℕ → Type 0
    Before n = ((k : ℕ) × (k < n) × HasTerm table items k any_text) ⊎ ((k : ℕ) → k < n → ¬ (sets_after e text k any_text))

    sure_before : (n : ℕ) → Before n
    sure_before zero = inr (λ k lt. absurd (omega arith))
    sure_before (suc n) = more (sure_before n)
      where
        more : Before n → Before (suc n)
        more (inl w) = inl (w.0, omega (arith, w.1), w.2)
        more (inr none) = at (decided n)
          where
            at : IsSureOrNot (HasTerm table items) n → Before (suc n)
            at (inl sure) = inl (n, omega arith, sure)
            at (inr not_sure) = inr (λ k lt. last k (cases_lt k n) lt)
              where
                last : (k : ℕ) → (k < n) ⊎ (n ≤ k) → k < suc n → ¬ (sets_after e text k any_text)
                last k (inl less) lt h = none k less h
                last k (inr le) lt h =
                    let is : k ≡ n = omega arith in
                    not_sure ((has n any_text).1 (subst (λ m. sets_after e text m any_text) is h, λ _. refl, none))

    -- an entry that holds the text accepts, or one before it does
    held_accepts : (entry : ℕ) → entry < length sources → Holds (entry_at sources entry) text → (k : ℕ) × (k ≤ entry) × Accepts table items k
    held_accepts entry lt held = by (sure_before entry)
      where
        by : Before entry → (k : ℕ) × (k ≤ entry) × Accepts table items k
        by (inl w) = (w.0, omega (arith, w.1), (any_text, w.2, any_holds [] refl))
        by (inr none) = own (decided entry)
          where
            own : IsSureOrNot (HasTerm table items) entry → (k : ℕ) × (k ≤ entry) × Accepts table items k
            own (inl sure) = (entry, omega arith, (any_text, sure, any_holds [] refl))
            own (inr not_sure) =
                let w = (holds_after e sources are entry lt text).0 held in
                (entry, omega arith, (w.0, (has entry w.0).1 (w.1, λ s. absurd (not_sure ((has entry any_text).1 (s, λ _. refl, none))), none), w.2))

    accepts_held : (entry : ℕ) → Accepts table items entry → (entry < length sources) × Holds (entry_at sources entry) text
    accepts_held entry a =
        let after = ((has entry a.0).0 a.1).0 in
        let lt = within entry a.0 after in
        (lt, (holds_after e sources are entry lt text).1 (a.0, after, a.2))

    pub match_here : (first : Option ℕ) → IsFirstAccepted table items first → IsFirstMatch sources text first
    match_here None none = λ k d lt held.
        let w = held_accepts k lt (subst (λ (l : List ℕ). Holds l text) (get_or_default sources k d [] lt) held) in
        none w.0 w.2
    match_here (Some i) found =
        let own = accepts_held i found.0 in (
          own.0,
          own.1,
          λ k below held.
              let w = held_accepts k (omega (arith, own.0)) held in
              found.1 w.0 (omega (arith, w.1)) w.2,
        )

    pub sure_here : ((entry : ℕ) × HasTerm table items entry any_text) ↔ Any (λ source. IsSure source text) sources
    sure_here = (to, from)
      where
        to : ((entry : ℕ) × HasTerm table items entry any_text) → Any (λ source. IsSure source text) sources
        to w =
            let after = ((has w.0 any_text).0 w.1).0 in
            let lt = within w.0 any_text after in
            (w.0, entry_at sources w.0, lt, get_or_default sources w.0 (entry_at sources w.0) [] lt, (after_is e sources are w.0 lt text any_text).0 after)

        from : Any (λ source. IsSure source text) sources → (entry : ℕ) × HasTerm table items entry any_text
        from (k, x, lt, is, sure) = by (sure_before (suc k))
          where
            after : sets_after e text k any_text
            after = (after_is e sources are k lt text any_text).1 (subst (λ s. IsSure s text) (sym is ∙ get_or_default sources k x [] lt) sure)

            by : Before (suc k) → (entry : ℕ) × HasTerm table items entry any_text
            by (inl w) = (w.0, w.2)
            by (inr none) = absurd (none k (omega arith) after)

  module _ (now : Entries) (table : Table) (states : List (Vec EntryTerm)) (marks : Marks) (s : IsScanned e now table states marks) where
    module _ (text : List ℕ) (h : IsTrue (is_text text)) where
      state : ℕ
      state = walk table (word_of e.alphabet text)

      -- the text that is kept for the state to which the text leads, which has its residuals
      found : List ℕ
      found = text_of e.alphabet (word_at table.words state)

      found_same : SameResiduals sources found text
      unfolding found state
      found_same =
          let machine = residuals e.alphabet e.terms e.start in
          let tells = tells_residuals e sources whole are in
          let word = word_of e.alphabet text in
          let spelt = text_of e.alphabet word in
          let kept = (same_after e sources whole are spelt found).0 (kept_word e.alphabet machine sources tells table s.found text h) in
          same_symmetric sources text found (same_transitive sources text spelt found (spelled_same e.alphabet machine sources tells text h) kept)

      in_range : state < length table.words
      unfolding state
      in_range = s.found.automaton.within (word_of e.alphabet text) (read e.alphabet (residuals e.alphabet e.terms e.start) sources (tells_residuals e sources whole are) text h)

      counted : (items : List EntryTerm) → LeadsTo now.alphabet now.terms now.start (word_at table.words state) items
          → (entry : ℕ) (term : Term) → HasTerm now.terms items entry term ↔ Counts (sets_after e found) entry term
      unfolding found
      counted items led entry term =
          let grown = after_grown e now s.grows (word_at table.words state) in
          let before : TermSets = sets_after e found in
          let then : TermSets = λ k. After (HasTerm now.terms now.start k) (text_of now.alphabet (word_at table.words state)) in (
            λ k. counts_alike then before (λ n t. ((grown n t).1, (grown n t).0)) entry term ((led.members entry term).0 k),
            λ c. (led.members entry term).1 (counts_alike before then grown entry term c),
          )

      on_end : (t : List ℕ) (first : Option ℕ) → IsFirstMatch sources (t ++ []) first ↔ IsFirstMatch sources t first
      on_end t first = (subst (λ l. IsFirstMatch sources l first) (append-nil t), subst (λ l. IsFirstMatch sources l first) (sym (append-nil t)))

      pub firsts_at : IsFirstMatch sources text (first_of (decider_of e table marks) (state_of (decider_of e table marks) text))
      unfolding state
      firsts_at =
          let first = first_of (decider_of e table marks) (state_of (decider_of e table marks) text) in
          let there = zip_through _ _ table.words states marks.firsts state [] None s.led s.matched in_range in
          let here = match_here now.terms there.0.items found (counted there.0.items there.1) there.1.decided first there.2 in
          (on_end text first).0 ((same_match sources found text [] first refl found_same).0 ((on_end found first).1 here))

      pub sures_at : IsTrue (is_sure (decider_of e table marks) (state_of (decider_of e table marks) text)) ↔ Any (λ source. IsSure source text) sources
      unfolding state
      sures_at =
          let there = zip_through _ _ table.words states marks.sures state [] false s.led s.sure in_range in
          let here = sure_here now.terms there.0.items found (counted there.0.items there.1) there.1.decided in (
            λ yes. sure_in sources found text found_same (here.0 (there.2.0 yes)),
            λ any. there.2.1 (here.1 (sure_in sources text found (same_symmetric sources found text found_same) any)),
          )

    pub is_scanned : IsDecider (decider_of e table marks) sources
    is_scanned =
        is_decider e.alphabet (residuals e.alphabet e.terms e.start) sources (tells_residuals e sources whole are) table s.found marks e.count
        are.many firsts_at sures_at
