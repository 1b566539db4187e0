use Rattle.std.proofs.Common.{◌≡◌, Option, Some, None, length, ◌/◌, min, refl, sym, ap, ◌∙◌}
use Rattle.std.specs.Option.{option_or}
use Rattle.tac_console_client.specs.Hints.{first_within}
use Rattle.tac_console_client.specs.declared.hint.ConsoleWord.{ConsoleWord}
use Rattle.tac_console_client.proofs.hint.nearest_in.Goals as goal

second : (a b c : Option ConsoleWord) (word : ConsoleWord) → a ≡ None → b ≡ Some word → Some word ≡ option_or a (option_or b c)
second a b c word none some = rw (none, some) refl

pub returns-in-Some-2 : goal.returns-in-Some-2
returns-in-Some-2 c =
    let words = c.args.words.now in
    let from = c.args.from.now in
    second (first_within words from 0) (first_within words from (min 1 (length from / 2))) (first_within words from (min 2 (length from / 2))) c.in-Some-2.word
    (sym c.in_ok-word.ensures ∙ c.in_default.is)
    (ap (λ most. first_within words from most) (sym c.min.ensures) ∙ sym c.in_ok-word-2.ensures ∙ c.in-Some-2.is)
