use Rattle.policy_tests.proofs.Numbered.{numbered}
use Rattle.policy_tests.proofs.scan.remainders.Remainders.least.Goals as goal

pub search-requires : goal.search-requires
search-requires c = numbered c.args.self.now.numerals
