use Rattle.std.proofs.Common.{ℕ, ap, ◌∙◌}
use Rattle.std.specs.Hash.{le_bytes}
use Rattle.pol_pattern.proofs.ClassBits.{bits_back}
use Rattle.pol_pattern.proofs.flat.ClassHash.hash.Goals as goal

pub returns : goal.returns
returns g c =
    c.hash.ensures ∙ ap (λ (n : ℕ). g.H.Hasher.write c.args.state.now (le_bytes 16 n)) (bits_back _ _ c.self.view_is c.self.invariant)
