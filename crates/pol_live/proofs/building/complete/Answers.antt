use Rattle.std.proofs.Common.{◌≡◌, ◌<◌, length, get_or, add-one}
use Rattle.std.proofs.lemmas.Option.{get_or_from_slice_get}
use Rattle.pol_live.proofs.BuildFacts.{more_small, subject_within}
use Rattle.pol_live.proofs.FillFacts.{small_there}
use Rattle.pol_live.proofs.SlotFacts.{grows_on, more_there, more_keepers}
use Rattle.pol_live.proofs.MeterFacts.{counts_on}
use Rattle.pol_live.proofs.building.complete.Goals as goal

pub loop-index-preserved : goal.loop-index-preserved
loop-index-preserved c =
    let policy = c.args.policy.now in
    let i = c.loop-index.index in
    let lt : i < length policy = rw (← c.subjects-index-end.ensures.subjects) c.loop-index-test.true in
    let there = subject_within policy i lt in
    let subject = there.0 in
    let here = there.1 in
    let at : get_or policy i subject ≡ subject = get_or_from_slice_get policy i subject subject here in
    let told = c.in_ok-fill_subject.ensures in
    record {
      right = told.right;
      grows = grows_on c.args.parts.now c.loop-index.parts c.fill_subject.new.parts c.loop-index.invariant.grows told.grows;
      keepers = rw add-one (more_keepers policy c.loop-index.parts c.fill_subject.new.parts i subject told.grows here c.loop-index.invariant.keepers (told.keeper subject here));
      counts = counts_on _ _ _ _ _ _ c.loop-index.invariant.counts told.counts;
      there = rw add-one (more_there c.loop-index.parts c.fill_subject.new.parts i told.grows c.loop-index.invariant.there told.there);
      small = rw add-one (more_small policy policy i subject lt at c.loop-index.invariant.small (small_there policy c.fill_subject.new.parts i subject told.right here told.there));
    }
