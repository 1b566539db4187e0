use Rattle.pol_pattern.proofs.ClassBits.{same_bits}
use Rattle.pol_pattern.proofs.flat.ClassPartialEq.eq.Goals as goal

pub returns : goal.returns
returns c = same_bits _ _ _ _ c.self.view_is c.other.view_is c.self.invariant c.other.invariant
