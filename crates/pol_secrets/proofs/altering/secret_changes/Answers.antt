use Rattle.std.proofs.Common.{sym, subst}
use Rattle.pol_secrets.specs.Altering.{AreAllOf}
use Rattle.pol_secrets.proofs.ExactFacts.{all_of}
use Rattle.pol_secrets.proofs.altering.secret_changes.Goals as goal

pub returns-clause-exact : goal.returns-clause-exact
returns-clause-exact c =
    subst (AreAllOf c.args.old.now c.args.new.now) (sym c.in_ok-changes.ensures) (all_of c.args.old.now c.args.new.now)
