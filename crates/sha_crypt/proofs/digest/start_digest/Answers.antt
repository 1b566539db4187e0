use Rattle.std.proofs.Common.{◌≡◌, ◌++◌, List, ℕ, length, ap, ◌∙◌, arith}
use Rattle.sha2.specs.Sha512.{sha512}
use Rattle.sha_crypt.specs.Crypt.{repeated, by_bits}
use Rattle.sha_crypt.proofs.digest.start_digest.Goals as goal

pub returns : goal.returns
returns c =
    let p = c.args.password.now in
    let made : List ℕ → ℕ → List ℕ = λ first n.
    sha512 (p ++ c.args.salt.now ++ repeated first (length p) ++ by_bits first p (length p) n) in
    let done : c.bits.i ≡ 8 = omega (arith, c.bits-test.false, c.bits.auto.i-end) in
    c.finalize.ensures _ c.bits.invariant
    ∙ ap (made c.first_digest-first.result) done
    ∙ ap (λ (first : List ℕ). made first 8) c.first_digest-first.ensures
