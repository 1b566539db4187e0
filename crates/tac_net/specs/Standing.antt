-- How a worker stands that serves many connections.
use Rattle.std.specs.Prelude.{◌≡◌, ◌+◌, ℕ}
use Rattle.tac_audit.specs.declared.notice.Notice.{Notice}
use Rattle.tac_hall.specs.Seat.{Seated}
use Rattle.tac_journal.specs.Log.{Keeping}
use Rattle.tac_worker.specs.Board.{Board, AreAll}
use Rattle.tac_net.specs.Connections.{Begins}
use Rattle.tac_net.specs.declared.callers.Callers.{Callers}
use Rattle.tac_net.specs.declared.settings.Settings.{Settings}

-- what doesn't change while it serves: its seat at first, the settings and the log of its server
pub record Standing (L : Type 0) : Type 0 where
  pub first : Seated
  pub settings : Settings
  pub log : L

-- each of its connections began by the door of a device that may call, with a witness that tells
-- the log; so many of the connections that it may serve are left
pub record Stands {V S : Type 0} (takes refuses : V → Notice → V → Type 0) (callers : Callers)
    (log : Keeping) (connections : ℕ) (board : Board Seated V S) (left : ℕ) : Type 0 where
  pub each : AreAll (λ line. Begins takes refuses callers log line.link.door line.link.first) board
  pub count : board.next + left ≡ connections
