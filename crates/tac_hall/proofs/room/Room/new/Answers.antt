use Rattle.std.proofs.Common.{arith, ap}
use Rattle.tac_hall.proofs.RoomFacts.{counted_first}
use Rattle.tac_hall.proofs.room.Room.new.Goals as goal

pub invariant_of-result : goal.invariant_of-result
invariant_of-result g c = (
  ap (λ k. k.roll) c.requires.keeper,
  ap (λ o. o.limits) c.requires.opening,
  ap (λ k. k.members) c.requires.keeper,
  counted_first _ _ _ (ap (λ k. k.all) c.requires.keeper) (ap (λ o. o.meaning) c.requires.opening),
  omega arith,
)
