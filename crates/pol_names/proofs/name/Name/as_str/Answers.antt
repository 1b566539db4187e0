use Rattle.pol_names.proofs.NameFacts.{name_utf8}
use Rattle.pol_names.proofs.name.Name.as_str.Goals as goal

pub unreachable-requires : goal.unreachable-requires
unreachable-requires c = c.in-Err.ensures.cases.0 (rw c.as_slice.ensures.value (name_utf8 c.args.self.now c.as_slice.ensures.right))
