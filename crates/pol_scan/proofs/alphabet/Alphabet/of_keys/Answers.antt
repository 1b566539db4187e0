use Rattle.std.proofs.Common.{◌<◌, ℕ, arith}
use Rattle.pol_scan.proofs.Numbering.{found_again, found_new}
use Rattle.pol_scan.proofs.alphabet.Alphabet.of_keys.Goals as goal
use Rattle.pol_scan.proofs.alphabet.Alphabet.of_keys.Goals.{then-column-width, else-column-width}

pub loop-place-preserved : goal.loop-place-preserved
loop-place-preserved c =
    let l = c.loop-place in
    let keys = c.args.keys.now in
    let known = c.loop-place.invariant in
    elim c.if-column-width.branch [
      | then-column-width w ↦
          let others = λ (k : ℕ) (lt : k < l.width). c.place_of-column.ensures.others k (omega (arith, lt, w.if-column-width.true)) in
          rw (w.firsts-is, w.least-is, w.width-is, w.if-column-width.true)
          (found_new keys l.firsts l.columns l.least l.width l.place known c.loop-place-test.true others)
      | else-column-width w ↦
          let within : c.place_of-column.result < l.width = omega (arith, c.place_of-column.ensures.within, w.if-column-width.false) in
          rw (w.firsts-is, w.least-is, w.width-is)
          (found_again keys l.firsts l.columns l.least l.width l.place known c.loop-place-test.true c.place_of-column.result within (c.place_of-column.ensures.found within))
    ]
