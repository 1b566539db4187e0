use Rattle.std.proofs.Common.{refl}
use Rattle.pol_update.proofs.updating.edits_between.Goals as goal

pub returns-then-have_same-clause-found : goal.returns-then-have_same-clause-found
returns-then-have_same-clause-found c = rw c.new.ensures (record {
  made = c.args.old.now;
  makes = refl;
  steps = refl;
  same = c.have_same.ensures.0 c.if-have_same.true;
})
