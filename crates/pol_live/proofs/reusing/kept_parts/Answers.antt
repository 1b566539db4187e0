use Rattle.pol_live.proofs.RenewFacts.{owns_right, wholes_right}
use Rattle.pol_live.proofs.reusing.kept_parts.Goals as goal

pub returns-clause-right : goal.returns-clause-right
returns-clause-right c =
    let same = c.requires.alike in
    record {
      many_owns = c.in_ok-owns.ensures.kept.0;
      many_wholes = c.in_ok-wholes.ensures.0;
      owns = owns_right c.args.touched.now c.args.before.now c.args.after.now same c.in_ok-owns.ensures.well_formed c.args.parts.now c.requires.right c.in_ok-owns.owns c.in_ok-owns.ensures.kept;
      wholes = wholes_right c.args.touched.now c.args.before.now c.args.after.now same c.in_ok-owns.ensures.well_formed c.args.parts.now c.requires.right c.in_ok-wholes.wholes c.in_ok-wholes.ensures;
    }
