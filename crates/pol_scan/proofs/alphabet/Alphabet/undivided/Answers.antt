use Rattle.std.proofs.Common.{◌-◌, sym, ◌∙◌}
use Rattle.pol_scan.proofs.AlphabetFacts.{zero_at}
use Rattle.pol_scan.proofs.alphabet.Alphabet.undivided.Goals as goal

pub returns-clause-classes : goal.returns-clause-classes
returns-clause-classes c = λ a b p q. (λ _. tt, λ _. (c.of_keys.ensures.classes a b p q).1 (zero_at 95 (a - 32) ∙ sym (zero_at 95 (b - 32))))
