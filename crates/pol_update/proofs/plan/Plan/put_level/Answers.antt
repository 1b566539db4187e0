use Rattle.std.proofs.Common.{◌≡◌, Some, sym}
use Rattle.pol_text.specs.Policy.{find_subject}
use Rattle.pol_update.proofs.Takes.{level_turned, level_differs}
use Rattle.pol_update.proofs.plan.Plan.put_level.Goals as goal

pub returns : goal.returns
returns c =
    let id = c.args.id.now in
    let p = c.args.self.now.made in
    let found : find_subject id p ≡ Some c.in-Some.present.now = sym (rw c.in-Some.is at c.find.ensures.found) in
    level_turned c.add.result id c.args.level c.in-Some.present.now c.args.self.now c.add.new.self c.find.ensures.well_formed found (level_differs c.in-Some.present.now.priv_lvl c.args.level c.eq.result c.eq.ensures c.if-eq.false)
    c.requires (rw c.wide-level.ensures at c.add.ensures.added)
