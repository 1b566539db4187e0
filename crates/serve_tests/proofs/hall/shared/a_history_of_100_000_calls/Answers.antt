use denote.Param.Send.{sendable}
use Rattle.std.proofs.Crossing.{crosses}
use Rattle.serve_tests.proofs.Crossing.{PlainDesk-send}
use Rattle.serve_tests.proofs.hall.shared.a_history_of_100_000_calls.Goals as goal

pub asks_all-requires-send-D : goal.asks_all-requires-send-D
asks_all-requires-send-D g c κs =
    search (PlainDesk-send, crosses, sendable) depth 60 fits 20000
