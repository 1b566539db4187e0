use Rattle.tac_hall.proofs.CallFacts.{stretch_joined}
use Rattle.tac_hall.proofs.LogFacts.{logs_law}
use Rattle.tac_hall.proofs.ViewFacts.{views_law}
use Rattle.tac_hall.proofs.laws.logs_laws.Goals as goal

pub returns-clause-logs : goal.returns-clause-logs
returns-clause-logs c = logs_law

pub returns-clause-places : goal.returns-clause-places
returns-clause-places c = views_law

pub returns-clause-joined : goal.returns-clause-joined
returns-clause-joined c = stretch_joined
