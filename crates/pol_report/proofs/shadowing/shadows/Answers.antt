use Rattle.std.proofs.Common.{◌≡◌, ◌<◌, ◌≤◌, length, get_or, sym}
use Rattle.pol_text.specs.Policy.{id_of}
use Rattle.pol_meaning.specs.Along.{entries_of}
use Rattle.pol_report.specs.Sharing.{AreTold}
use Rattle.pol_report.proofs.Leasts.{take_all}
use Rattle.pol_report.proofs.ShadowFacts.{told_shadows, only_shadows}
use Rattle.pol_report.proofs.shadowing.shadows.Goals as goal

pub loop-subject-preserved : goal.loop-subject-preserved
loop-subject-preserved c =
    let live = c.args.live.now in
    let i = c.loop-subject.subject-index in
    let subject = c.subject-item.result in
    let at : get_or live i subject ≡ subject = rw (← c.loop-subject.invariant.same) (sym c.subject-item.is) in
    let lt : i < length live = rw (← c.loop-subject.invariant.same) c.loop-subject-test.true in
    let told : AreTold (entries_of live (id_of subject)) (id_of subject) c.loop-subject.shadows c.add_shadows.new.shadows = rw (← c.id.ensures) c.in_ok-add_shadows.ensures.told in
    record {
      so_far = told_shadows live live i subject c.loop-subject.shadows c.add_shadows.new.shadows lt at c.loop-subject.invariant.so_far told;
      known = c.in_ok-add_shadows.ensures.known;
      same = c.loop-subject.invariant.same;
    }

pub returns-clause-only : goal.returns-clause-only
returns-clause-only c other k =
    let live = c.args.live.now in
    let past : length live ≤ c.loop-subject.subject-index = rw (← c.loop-subject.invariant.same) c.loop-subject-test.false in
    let all = rw (take_all live c.loop-subject.subject-index past) at c.loop-subject.invariant.so_far in
    only_shadows live live c.loop-subject.shadows other all k
