use Rattle.std.proofs.Common.{◌≡◌, Option, Some, None, length, ◌/◌, min, refl, sym, ap, ◌∙◌}
use Rattle.std.specs.Option.{option_or}
use Rattle.tac_devices_lint.specs.Words.{known_words, first_within}
use Rattle.tac_devices_lint.specs.declared.word.LineWord.{LineWord}
use Rattle.tac_devices_lint.proofs.word.nearest_of.Goals as goal

second : (a b c : Option LineWord) (word : LineWord) → a ≡ None → b ≡ Some word → Some word ≡ option_or a (option_or b c)
second a b c word none some = rw (none, some) refl

pub returns-in-Some-2 : goal.returns-in-Some-2
returns-in-Some-2 c =
    let from = c.args.from.now in
    second (first_within known_words from 0) (first_within known_words from (min 1 (length from / 2))) (first_within known_words from (min 2 (length from / 2))) c.in-Some-2.word
    (sym c.in_ok-word.ensures ∙ c.in_default.is)
    (ap (λ most. first_within known_words from most) (sym c.min.ensures) ∙ sym c.in_ok-word-2.ensures ∙ c.in-Some-2.is)
