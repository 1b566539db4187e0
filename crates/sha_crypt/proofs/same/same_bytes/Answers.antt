use Rattle.std.proofs.Common.{arith}
use Rattle.std.specs.Str.{bytes_eq}
use Rattle.std.proofs.lemmas.Bool.Decides.{nat_tests, same_from_decides}
use Rattle.std.proofs.lemmas.Slice.Eq.{bytes_eq-Decides}
use Rattle.sha_crypt.proofs.Sameness.{same_further, none_further, decided}
use Rattle.sha_crypt.proofs.same.same_bytes.Goals as goal

pub bytes-preserved : goal.bytes-preserved
bytes-preserved c = record {
  tells = same_further c.bytes.differing c.args.one.now c.args.other.now c.bytes.i c.bytes.invariant.tells;
  told = λ e. none_further c.bytes.differing c.args.one.now c.args.other.now c.bytes.i e (c.bytes.invariant.told e);
}

pub returns-clause-same : goal.returns-clause-same
returns-clause-same c = decided c.bytes.differing c.args.one.now c.args.other.now c.bytes.i (grind (arith, nat_tests)) (grind (arith, nat_tests)) c.bytes.invariant.tells c.bytes.invariant.told

pub returns-clause-eq : goal.returns-clause-eq
returns-clause-eq c =
    same_from_decides _ (bytes_eq c.args.one.now c.args.other.now) (returns-clause-same c)
    (bytes_eq-Decides c.args.one.now c.args.other.now)
