use Rattle.std.proofs.Common.{refl}
use Rattle.tac_tally.proofs.Standing.{stands-none}
use Rattle.tac_tally.proofs.account.Account.new.Goals as goal

pub returns : goal.returns
returns c = λ user entries none. stands-none user entries _ refl c.new.ensures.empty c.new-2.ensures.items none
