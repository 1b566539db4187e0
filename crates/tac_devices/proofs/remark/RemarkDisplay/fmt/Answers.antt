use Rattle.tac_devices.proofs.remark.RemarkDisplay.fmt.Goals as goal

pub returns-in-SameKey-clause-writes : goal.returns-in-SameKey-clause-writes
returns-in-SameKey-clause-writes g c = rw c.in-SameKey.is c.write.ensures.writes

pub returns-in-ShortKey-clause-writes : goal.returns-in-ShortKey-clause-writes
returns-in-ShortKey-clause-writes g c = rw c.in-ShortKey.is c.write-in-ShortKey.ensures.writes

pub returns-in-OldKeyBesideTls-clause-writes : goal.returns-in-OldKeyBesideTls-clause-writes
returns-in-OldKeyBesideTls-clause-writes g c = rw c.in-OldKeyBesideTls.is c.write-in-OldKeyBesideTls.ensures.writes

pub returns-in-SameName-clause-writes : goal.returns-in-SameName-clause-writes
returns-in-SameName-clause-writes g c = rw c.in-SameName.is c.write-in-SameName.ensures.writes
