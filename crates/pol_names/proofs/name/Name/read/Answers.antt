use Rattle.std.proofs.Common.{sym, ◌∙◌}
use Rattle.pol_names.proofs.NameFacts.{name_made, name_read}
use Rattle.pol_names.proofs.name.Name.read.Goals as goal

pub invariant_of-result : goal.invariant_of-result
invariant_of-result c = name_made c.args.text.now c.padded-bytes.result c.padded-bytes.ensures (sym c.is_name.ensures ∙ c.if-not-is_name.false)

pub returns : goal.returns
returns c = name_read c.args.text.now c.padded-bytes.result c.padded-bytes.ensures (sym c.is_name.ensures ∙ c.if-not-is_name.false)
