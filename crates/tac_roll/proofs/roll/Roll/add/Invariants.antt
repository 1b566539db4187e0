use Rattle.std.proofs.Common.{[], ◌∷◌}
use Rattle.tac_roll.proofs.roll.Roll.add.Given as goal

-- what is added
abbrev pub ghosts-add_as : goal.ghosts-add_as
ghosts-add_as g a = record { items = a.item.now ∷ [] }
