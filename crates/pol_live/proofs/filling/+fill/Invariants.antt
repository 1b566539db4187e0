use Rattle.pol_live.proofs.filling.+fill.Given as goal

abbrev pub decreases-fill : goal.decreases-fill
decreases-fill l = l.most
