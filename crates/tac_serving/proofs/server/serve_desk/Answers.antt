use denote.Param.Send.{sendable}
use Rattle.std.proofs.Crossing.{crosses}
use Rattle.tac_serving.proofs.server.serve_desk.Goals as goal

pub serve-requires-send-D : goal.serve-requires-send-D
serve-requires-send-D g c κs within = search (c.type_bounds.send-D, crosses, sendable) depth 60 fits 20000
