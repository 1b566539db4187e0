-- The desk of the tests may be handed to another thread.
use denote.Param.Send.{IsSend, sendable}
use Rattle.std.proofs.Crossing.{crosses}
use Rattle.std.proofs.MapsCrossing.{crosses as maps}
use Rattle.std.proofs.MapsCrossingOver.{crosses as sets}
use Rattle.tac_hall.proofs.Crossing.{Policy-send}
use Rattle.tac_desks.specs.contracts.plain.PlainDesk as PlainDesk

pub PlainDesk-send : IsSend PlainDesk.the_row
PlainDesk-send = search (Policy-send, sets, maps, crosses, sendable) depth 90 fits 100000
