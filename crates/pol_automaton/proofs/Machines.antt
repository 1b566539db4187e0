-- What the scan finds of any machine that tells words apart by the residuals of entries is the
-- Decider of these.
use Rattle.std.proofs.Common.{◌≡◌, ◌<◌, ◌↔◌, ℕ, Bool, IsTrue, List, [], map, Option, Some, length, sym, subst, ap, ◌∙◌, arith}
use Rattle.std.specs.Prelude.{Any}
use Rattle.std.specs.List.{slice_index_or}
use Rattle.std.proofs.lemmas.List.{get_or-map, length-map}
use Rattle.basics.specs.Symbol.{is_text}
use Rattle.basics.specs.TextOrder.{IsLeast}
use Rattle.pol_scan.specs.Alphabet.{Alphabet, IsAlphabet, HasClasses, word_of, text_of}
use Rattle.pol_scan.specs.Words.{IsWord, IsWordThat, word_at}
use Rattle.pol_scan.specs.Congruence.{Congruence, AreDifferent, HasIndex, HasIndexAbove}
use Rattle.pol_scan.specs.Table.{Table, count, walk, IsAutomatonOf}
use Rattle.pol_residual.specs.Residuals.{SameResiduals, IsResidualCount, HasMoreResiduals, IsSure}
use Rattle.pol_residual.specs.Residuals.{AreDifferent as AreDifferentTexts}
use Rattle.pol_automaton.specs.Decision.{IsFirstMatch}
use Rattle.pol_automaton.specs.Automaton.{Automaton, state_of, first_of, is_sure, IsWhole, IsDecider}
use Rattle.pol_automaton.specs.Alike.{AreAlike}
use Rattle.pol_automaton.proofs.Words.{is_word, spells_text}
use Rattle.pol_automaton.proofs.Alikes.{same_alike}
use Rattle.pol_automaton.proofs.Counting.{same_symmetric, same_transitive}
use Rattle.pol_automaton.proofs.Columns.{by_classes, spelled_related}

-- the machine reads texts by the alphabet, and words are the same if their texts have the same
-- residuals
pub record TellsResiduals (alphabet : Alphabet) (machine : Congruence) (sources : List (List ℕ)) : Type 0 where
  pub letters : IsAlphabet alphabet
  pub columns : machine.width ≡ alphabet.width
  pub same : (u v : List ℕ) → IsWord machine.width u → IsWord machine.width v
      → machine.same u v ↔ SameResiduals sources (text_of alphabet u) (text_of alphabet v)
  pub classes : HasClasses alphabet (AreAlike sources)

-- what the scan finds of a machine
pub record IsFound (machine : Congruence) (table : Table) : Type 0 where
  pub automaton : IsAutomatonOf machine table
  pub index : HasIndex machine (count table)

-- what is kept of each state: its first match, and whether an entry is sure
pub record Marks : Type 0 where
  pub firsts : List (Option ℕ)
  pub sures : List Bool

abbrev pub automaton_of : Alphabet → Table → Marks → ℕ → Automaton
automaton_of alphabet table marks many =
    record { alphabet = alphabet; table = table; firsts = marks.firsts; sures = marks.sures; entries = many }

pub is_whole : (alphabet : Alphabet) (machine : Congruence) (table : Table) (marks : Marks) (many : ℕ)
    → IsAlphabet alphabet → machine.width ≡ alphabet.width → IsAutomatonOf machine table → length marks.firsts ≡ count table → length marks.sures ≡ count table
    → ((state i : ℕ) → state < count table → first_of (automaton_of alphabet table marks many) state ≡ Some i → i < many)
    → IsWhole (automaton_of alphabet table marks many)
is_whole alphabet machine table marks many letters columns found size sizes below = record {
  letters = letters;
  columns = found.columns ∙ columns;
  firsts = size;
  sures = sizes;
  within = λ word w. found.within word (subst (λ n. IsWord n word) found.columns w);
  words = λ state lt. subst (λ n. IsWord n (word_at table.words state)) (sym found.columns) (found.least state lt).0.0;
  below = below;
}

module _ (alphabet : Alphabet) (machine : Congruence) (sources : List (List ℕ)) (is : TellsResiduals alphabet machine sources) where
  -- texts are read as words, and words spell texts
  pub read : (text : List ℕ) → IsTrue (is_text text) → IsWord machine.width (word_of alphabet text)
  read text h = subst (λ n. IsWord n (word_of alphabet text)) (sym is.columns) (is_word alphabet is.letters text h)

  pub spelled : (word : List ℕ) → IsWord machine.width word → IsTrue (is_text (text_of alphabet word))
  spelled word w = spells_text alphabet is.letters word (subst (λ n. IsWord n word) is.columns w)

  -- what is spelled of a text that was read has the text's residuals
  pub spelled_same : (text : List ℕ) → IsTrue (is_text text) → SameResiduals sources text (text_of alphabet (word_of alphabet text))
  spelled_same text h = same_alike sources text (text_of alphabet (word_of alphabet text))
      (spelled_related alphabet is.letters (AreAlike sources) (by_classes alphabet (AreAlike sources) is.classes) text h)

  -- words that are the same, of which the first is a text's
  same_half : (text word : List ℕ) → IsTrue (is_text text) → IsWord machine.width word
      → machine.same (word_of alphabet text) word ↔ SameResiduals sources text (text_of alphabet word)
  same_half text word h w =
      let by_words = is.same (word_of alphabet text) word (read text h) w in
      let spelt = text_of alphabet (word_of alphabet text) in
      let at = spelled_same text h in (
        λ s. same_transitive sources text spelt (text_of alphabet word) at (by_words.0 s),
        λ s. by_words.1 (same_transitive sources spelt text (text_of alphabet word) (same_symmetric sources text spelt at) s),
      )

  same_whole : (text other : List ℕ) → IsTrue (is_text text) → IsTrue (is_text other)
      → machine.same (word_of alphabet text) (word_of alphabet other) ↔ SameResiduals sources text other
  same_whole text other h k =
      let half = same_half text (word_of alphabet other) h (read other k) in
      let spelt = text_of alphabet (word_of alphabet other) in
      let at = spelled_same other k in (
        λ s. same_transitive sources text spelt other (half.0 s) (same_symmetric sources other spelt at),
        λ s. half.1 (same_transitive sources text other spelt s at),
      )

  different_texts : (words : List (List ℕ)) → AreDifferent machine words → AreDifferentTexts sources (map (text_of alphabet) words)
  different_texts words d = record {
    all_texts = λ k t lt.
        let in_range : k < length words = omega (arith, length-map words (text_of alphabet)) in
        subst (λ (l : List ℕ). IsTrue (is_text l)) (sym (get_or-map (text_of alphabet) words k [] t in_range))
        (spelled (word_at words k) (d.all_words k [] in_range));
    different = λ i j t lt in_range same.
        let below : j < length words = omega (arith, length-map words (text_of alphabet)) in
        let at_i = get_or-map (text_of alphabet) words i [] t (omega arith) in
        let at_j = get_or-map (text_of alphabet) words j [] t below in
        d.different i j [] lt below
        ((is.same (word_at words i) (word_at words j) (d.all_words i [] (omega arith)) (d.all_words j [] below)).1
        (subst (λ (l : List ℕ). SameResiduals sources l (text_of alphabet (word_at words j))) at_i
        (subst (SameResiduals sources (slice_index_or (map (text_of alphabet) words) i t)) at_j same)));
  }

  pub more_residuals : (limit : ℕ) → HasIndexAbove machine limit → HasMoreResiduals sources limit
  more_residuals limit above = record {
    texts = map (text_of alphabet) above.words;
    many = omega (arith, above.many, length-map above.words (text_of alphabet));
    different = different_texts above.words above.different;
  }

  pub residual_count : (index : ℕ) → HasIndex machine index → IsResidualCount sources index
  residual_count index has = record {
    texts = map (text_of alphabet) has.words;
    many = length-map has.words (text_of alphabet) ∙ has.many;
    different = different_texts has.words has.different;
    complete = λ text h.
        let c = has.complete (word_of alphabet text) (read text h) in
        let word = subst (IsWord machine.width) c.3 (has.different.all_words c.0 c.1 c.2) in (
          c.0,
          text_of alphabet c.1,
          omega (arith, c.2, length-map has.words (text_of alphabet)),
          get_or-map (text_of alphabet) has.words c.0 c.1 (text_of alphabet c.1) c.2 ∙ ap (text_of alphabet) c.3,
          (same_half text c.1 h word).0 c.4,
        );
  }

  module _ (table : Table) (found : IsFound machine table) where
    -- the word that is kept for a text's state is the same as the text's
    pub kept_word : (text : List ℕ) (h : IsTrue (is_text text))
        → machine.same (word_of alphabet text) (word_at table.words (walk table (word_of alphabet text)))
    kept_word text h =
        let word = word_of alphabet text in
        let least = (found.automaton.least (walk table word) (found.automaton.within word (read text h))).0 in
        (found.automaton.tells word (word_at table.words (walk table word)) (read text h) least.0).0 (sym least.1)

    pub is_decider : (marks : Marks) (many : ℕ) → many ≡ length sources
        → ((text : List ℕ) → IsTrue (is_text text) → IsFirstMatch sources text
        (first_of (automaton_of alphabet table marks many) (state_of (automaton_of alphabet table marks many) text)))
        → ((text : List ℕ) → IsTrue (is_text text) → IsTrue (is_sure (automaton_of alphabet table marks many) (state_of (automaton_of alphabet table marks many) text))
        ↔ Any (λ source. IsSure source text) sources)
        → IsDecider (automaton_of alphabet table marks many) sources
    is_decider marks many size matched sure = record {
      many = size;
      classes = is.classes;
      tells = λ text other h k.
          let by_words = found.automaton.tells (word_of alphabet text) (word_of alphabet other) (read text h) (read other k) in
          let by_texts = same_whole text other h k in
          (λ at. by_texts.0 (by_words.0 at), λ same. by_words.1 (by_texts.1 same));
      index = residual_count (count table) found.index;
      firsts = matched;
      sures = sure;
      leasts = λ test state lt passes none.
          subst (λ (n : ℕ). IsLeast (IsWordThat n (λ word. IsTrue (test (walk table word)))) (word_at table.words state)) (sym found.automaton.columns)
          (found.automaton.firsts test state lt passes none);
    }
