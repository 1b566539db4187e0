use Rattle.pol_live.proofs.keeping.+keeper_within.Given as goal

abbrev pub decreases-keeper_within : goal.decreases-keeper_within
decreases-keeper_within l = l.most
