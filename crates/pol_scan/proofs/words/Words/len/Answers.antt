use Rattle.std.proofs.Common.{arith}
use Rattle.pol_scan.proofs.WordFacts.{length-words_along}
use Rattle.pol_scan.proofs.words.Words.len.Goals as goal

pub returns : goal.returns
returns c = omega (arith, length-words_along c.self.inside.branches.items _ c.self.view_is, c.len.ensures, c.self.inside.branches.ok.0)
