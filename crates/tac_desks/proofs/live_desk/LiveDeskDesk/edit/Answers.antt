use Rattle.std.proofs.Common.{rules}
use Rattle.pol_live.specs.Rise.{IsEditRise, Rises}
use Rattle.tac_desk.proofs.Alone.{only_alone}
use Rattle.tac_desks.proofs.Edits.{made_alone}
use Rattle.tac_desks.proofs.live_desk.LiveDeskDesk.edit.Goals as goal

pub returns-clause-only : goal.returns-clause-only
returns-clause-only c = only_alone _ _ c.args.edit.now _ c.edit_all.result c.map_err.result (search rules) c.from_ref.ensures.value c.edit_all.ensures.only

pub returns-clause-rises : goal.returns-clause-rises
returns-clause-rises c =
    let policy = c.edit_all.new.self.meaning.policy in
    made_alone (λ edits. Rises (IsEditRise edits policy) c.args.self.now.meter c.edit_all.new.self.meter) c.args.edit.now _ c.edit_all.result c.map_err.result
    (search rules) c.from_ref.ensures.value c.edit_all.ensures.rises
