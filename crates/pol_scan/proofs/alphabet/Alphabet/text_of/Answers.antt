-- The vector holds the text of the least symbols.
use Rattle.std.proofs.Common.{◌≡◌, ◌++◌, length, take, drop, map, slice_index, ap, ◌∙◌, subst, arith}
use Rattle.std.proofs.lemmas.List.{length-map}
use Rattle.pol_scan.specs.Alphabet.{IsAlphabet, text_of}
use Rattle.pol_scan.proofs.AlphabetFacts.{rewritten, is_text-text_of, word_of-text_of, earlier_word, earlier_text, least_text}
use Rattle.pol_scan.proofs.alphabet.Alphabet.text_of.Goals as goal

pub returns : goal.returns
returns c =
    let a = c.args.self.now in
    let word = c.args.word.items in
    let laws = subst IsAlphabet c.self.view_is c.self.invariant in
    let spelled : c.spell.new.word ≡ text_of a word =
    c.spell.ensures ∙ ap (map (slice_index c.self.inside.least)) c.deref_mut.ensures.value ∙ ap (λ v. text_of v word) c.self.view_is in
    let is : take c.args.word.len (c.spell.new.word ++ drop (length c.spell.new.word) word) ≡ text_of a word =
    rewritten word c.spell.new.word c.args.word.len (omega (arith, c.args.word.ok.0))
    (ap length spelled ∙ length-map word _) ∙ spelled in
    record {
      value = is;
      text = rw is (is_text-text_of a laws word c.requires);
      word = rw is (word_of-text_of a laws word c.requires);
      order = rw is (earlier_word a laws word c.requires);
      order_of_words = rw is (earlier_text a laws word c.requires);
      least = rw is (least_text a laws word c.requires);
    }
