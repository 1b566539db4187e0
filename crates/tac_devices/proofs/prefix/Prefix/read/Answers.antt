use Rattle.std.proofs.Common.{rules}
use Rattle.tac_devices.proofs.PrefixFacts.{not_bare, mapped_wrong}
use Rattle.tac_devices.proofs.prefix.Prefix.read.Goals as goal
use Rattle.tac_devices.proofs.prefix.Prefix.read.Goals.{then-not-is_bare-via-then-not-is_bare, then-not-is_bare-via-else-not-is_bare+then-is_mapped}

pub returns-then-not-is_bare : goal.returns-then-not-is_bare
returns-then-not-is_bare c =
    elim c.then-not-is_bare.branch [
      | then-not-is_bare-via-then-not-is_bare w ↦ not_bare c.args.text.now c.in-Some.address c.in-Some.length (search rules) (search rules)
      | then-not-is_bare-via-else-not-is_bare+then-is_mapped w ↦ mapped_wrong c.args.text.now c.in-Some.address c.in-Some.length (search rules) (search rules)
    ]
