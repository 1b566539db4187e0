use Rattle.pol_pattern.proofs.Upgraded.{upgrade_law as law}
use Rattle.pol_pattern.proofs.law.upgrade_law.Goals as goal

pub returns : goal.returns
returns c = law
