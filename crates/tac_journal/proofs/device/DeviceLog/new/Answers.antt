use Rattle.tac_journal.proofs.DeviceFacts.{all_lines, lines_but_last}
use Rattle.tac_journal.proofs.device.DeviceLog.new.Goals as goal

pub returns-clause-lines : goal.returns-clause-lines
returns-clause-lines g c = λ notices now told.
    all_lines (λ log. record { origin = log.origin; log = log.log }) g.F.Append.takes g.F.Append.refuses notices _ now told

pub returns-clause-refused : goal.returns-clause-refused
returns-clause-refused g c = λ notices notice between now told refused.
    lines_but_last (λ log. record { origin = log.origin; log = log.log }) g.F.Append.takes g.F.Append.refuses notices notice _ between now told refused
