use Rattle.std.proofs.Common.{ℕ, List, ◌++◌}
use Rattle.tac_stream.specs.Kept.{unread_of}
use Rattle.tac_desk.specs.Serving.{whole_packets}
use Rattle.tac_server.specs.Kept.{Serves}
use Rattle.tac_server.proofs.TurningFacts.{Progress}
use Rattle.tac_server.proofs.turning.serve_piece.Given as goal

abbrev pub invariant-turns : goal.invariant-turns
invariant-turns g l =
    (before : List ℕ) → Serves l.fn.door l.fn.stream before
    → Progress l.fn.door (g.D.Desk.meaning l.fn.desk) (g.D.Desk.meaning l.desk) l.fn.out.items l.out.items l.stream (before ++ l.piece) (whole_packets l.fn.door before)

abbrev pub decreases-turns : goal.decreases-turns
decreases-turns g l = unread_of l.stream
