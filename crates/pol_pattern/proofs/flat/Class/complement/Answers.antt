use Rattle.std.proofs.Common.{◌∙◌, arith}
use Rattle.std.proofs.lemmas.Nat.{xor_lt}
use Rattle.pol_pattern.proofs.ClassBits.{turned}
use Rattle.pol_pattern.proofs.flat.Class.complement.Goals as goal

pub invariant_of-result : goal.invariant_of-result
invariant_of-result c = xor_lt 95 _ _ c.self.invariant (omega arith)

pub returns : goal.returns
returns c = λ test is. turned _ test (c.self.view_is ∙ is)
