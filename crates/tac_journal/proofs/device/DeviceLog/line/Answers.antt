use Rattle.tac_journal.proofs.device.DeviceLog.line.Goals as goal

pub returns : goal.returns
returns g c = (c.in_ok-time.time, c.in_ok-line.ensures)
