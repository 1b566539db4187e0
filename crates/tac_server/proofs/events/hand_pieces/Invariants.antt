use Rattle.std.proofs.Common.{ℕ, List, length, Bool, Result}
use Rattle.tac_server.specs.declared.server.Server.{Server}
use Rattle.tac_server.specs.declared.server.ServerFault.{ServerFault}
use Rattle.tac_server.specs.Server.{State}
use Rattle.tac_server.specs.Kept.{HasState, IsHeardUnlessMemory}
use Rattle.tac_server.proofs.events.hand_pieces.Given as goal

-- whatever is heard of the rest is heard of all bytes
abbrev pub invariant-pieces : goal.invariant-pieces
invariant-pieces g l =
    (last : List ℕ) (server : Server g.row.D.Denot) (result : Result Bool ServerFault)
    → ((state : State) → HasState g.D.Desk.meaning l.server state → IsHeardUnlessMemory g.D.Desk.meaning l.out.items last server l.conn l.rest state result)
    → (state : State) → HasState g.D.Desk.meaning l.fn.server state → IsHeardUnlessMemory g.D.Desk.meaning l.fn.out.items last server l.conn l.bytes state result

abbrev pub decreases-pieces : goal.decreases-pieces
decreases-pieces g l = length l.rest
