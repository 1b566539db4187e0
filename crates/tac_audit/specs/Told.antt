-- What is told of a packet, and of a header that is refused.
use Rattle.std.specs.Prelude.{ℕ, List, Option}
use Rattle.tac_request.specs.declared.record.AcctKind.{AcctKind}
use Rattle.tac_conn.specs.declared.reading.Asker.{Asker}
use Rattle.tac_audit.specs.declared.event.Said.{Said}
use Rattle.tac_audit.specs.declared.event.Why.{Why}
use Rattle.tac_audit.specs.declared.event.Origin.{Origin}

-- the last reply of a login; a command, with its line where the arguments make one; an accounting
-- record, with its kind where the flags mean one; or why it is refused as it stands
pub data Told : Type 0 where
  Login : Asker → Said → Told
  Command : Asker → List (List ℕ) → Option (List ℕ) → Said → Told
  Account : Asker → Option AcctKind → List ℕ → List (List ℕ) → Said → Told
  Refused : Why → Told

-- .. and on which session
pub record Noted : Type 0 where
  pub session : ℕ
  pub told : Told

-- .. of which device, and when its line was made, where that is told
pub record Event : Type 0 where
  pub time : Option (List ℕ)
  pub origin : Origin
  pub session : ℕ
  pub told : Told
