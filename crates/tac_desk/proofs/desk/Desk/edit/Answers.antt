use Rattle.std.proofs.Common.{rules}
use Rattle.tac_desk.proofs.Alone.{only_alone}
use Rattle.tac_desk.proofs.desk.Desk.edit.Goals as goal

pub returns-clause-only : goal.returns-clause-only
returns-clause-only g c = only_alone _ _ c.args.edit.now _ c.edit_all.result c.map_err.result (search rules) c.from_ref.ensures.value c.edit_all.ensures.only
