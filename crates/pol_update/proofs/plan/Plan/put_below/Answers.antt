use Rattle.std.proofs.Common.{◌≡◌, Some, sym, refl}
use Rattle.pol_text.specs.Policy.{find_subject}
use Rattle.pol_text.specs.Change.{with_changed, with_parent}
use Rattle.pol_update.proofs.Takes.{parent_turned, text_differs}
use Rattle.pol_update.proofs.Within.{fine, distinct_changed}
use Rattle.pol_update.proofs.plan.Plan.put_below.Goals as goal

pub returns : goal.returns
returns c =
    let id = c.args.id.now in
    let p = c.args.self.now.made in
    let found : find_subject id p ≡ Some c.in-Some.present.now = sym (rw c.in-Some.is at c.find.ensures.found) in
    let w = c.find.ensures.well_formed in
    parent_turned c.add.result id c.args.parent c.in-Some.present.now c.args.self.now c.add.new.self w found (text_differs c.in-Some.present.now.parent c.args.parent c.eq.result c.eq.ensures c.if-eq.false) c.requires.group
    (fine (with_changed id (with_parent c.args.parent) p) c.requires.within (distinct_changed id (with_parent c.args.parent) p (λ s. refl) w)) c.add.ensures.added
