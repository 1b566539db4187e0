use denote.Param.Send.{sendable}
use Rattle.std.proofs.Crossing.{crosses}
use Rattle.server_tests.proofs.Crossing.{PlainDesk-send}
use Rattle.server_tests.proofs.net.consoles.ends.Goals as goal

pub serve-ended-requires-send-D : goal.serve-ended-requires-send-D
serve-ended-requires-send-D g c κs within =
    search (PlainDesk-send, crosses, sendable) depth 60 fits 20000
