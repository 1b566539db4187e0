use Rattle.std.proofs.Common.{◌<◌, ◌-◌, ◌+◌, ◌*◌, slice_index, sym, ap, ◌∙◌, arith}
use Rattle.pol_scan.proofs.AlphabetFacts.{one_pair, symbol_range}
use Rattle.pol_scan.proofs.alphabet.Alphabet.divide.Goals as goal

pub returns-clause-classes : goal.returns-clause-classes
returns-clause-classes c = λ a b p q.
    let columns = c.self.inside.columns in
    let labels = c.args.labels.now in
    let first = symbol_range a p in
    let second = symbol_range b q in
    let i : a - 32 < 95 = omega (arith, first.0, first.1) in
    let j : b - 32 < 95 = omega (arith, second.0, second.1) in
    let one = c.keys_of.ensures (a - 32) i in
    let two = c.keys_of.ensures (b - 32) j in
    let classes = c.of_keys.ensures.classes a b p q in
    rw (← c.self.view_is) (
      λ e. one_pair (slice_index columns (a - 32)) (slice_index columns (b - 32)) (slice_index labels (a - 32)) (slice_index labels (b - 32))
          (c.fits-labels (a - 32)) (c.fits-labels (b - 32)) (sym one ∙ classes.0 e ∙ two),
      λ both. classes.1 (one ∙ ap (λ n. n * 256 + slice_index labels (a - 32)) both.0
          ∙ ap (λ n. slice_index columns (b - 32) * 256 + n) both.1 ∙ sym two),
    )
