use Rattle.tac_journal.proofs.DeviceFacts.{logged_at, none_at, lacks}
use Rattle.tac_journal.proofs.device.DeviceLog.append.Goals as goal

pub returns-in-Ok-Some-clause-line : goal.returns-in-Ok-Some-clause-line
returns-in-Ok-Some-clause-line g c =
    let made = c.in-Ok-Some.ensures in logged_at _ _ _ _ made.0 _ c.in-Ok-Some.line _ _ (rw c.in-Ok-Some.field-0-is at made.1) (λ wanted same. c.log_lines.ensures wanted same)

pub returns-in-Ok-None-clause-line : goal.returns-in-Ok-None-clause-line
returns-in-Ok-None-clause-line g c = let made = c.in-Ok-None.ensures in none_at _ _ made.0 _ _ (rw c.in-Ok-None.field-0-is at made.1)

pub returns-in-Err-clause-line : goal.returns-in-Err-clause-line
returns-in-Err-clause-line g c = lacks _ _ _ _
