use denote.Param.Send.{sendable}
use Rattle.std.proofs.Crossing.{crosses}
use Rattle.tac_keep.proofs.Crossing.{KeepingWatch-send}
use Rattle.tac_watch.proofs.watched.Watched.TheSendSync as watched
use Rattle.tac_watch.proofs.filling_watch.FillingWatch.TheSendSync as filling
use Rattle.tac_status.proofs.counting_watch.CountingWatch.TheSendSync as counting
use Rattle.tac_serving.proofs.Crossing.{LiveDesk-send}
use Rattle.tac_serving.proofs.keeping.serve_exchange.Goals as goal

pub serve_desk-requires-send-D : goal.serve_desk-requires-send-D
serve_desk-requires-send-D g c κs within = search (watched.the_send, KeepingWatch-send, filling.the_send, counting.the_send, c.type_bounds.sync-H, LiveDesk-send, crosses, sendable) depth 60 fits 20000
