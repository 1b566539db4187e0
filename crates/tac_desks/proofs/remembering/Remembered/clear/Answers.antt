use Rattle.std.proofs.Common.{ap}
use Rattle.pol_names.specs.declared.decision.Decision.{Decision}
use Rattle.lru.specs.LruCache.{LruCache}
use Rattle.tac_desks.specs.declared.remembering.Command.{Command}
use Rattle.tac_desks.proofs.Recalled.{none_right}
use Rattle.tac_desks.proofs.remembering.Remembered.clear.Goals as goal

pub returns : goal.returns
returns c policy = none_right policy _ (ap (λ (kept : LruCache Command Decision). kept.entries) c.clear.ensures)
