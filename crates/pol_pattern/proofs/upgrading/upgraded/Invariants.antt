use Rattle.std.proofs.Common.{◌≡◌, ◌++◌, drop}
use Rattle.pol_pattern.specs.Upgrading.{upgraded_from, upgraded as upgraded_bytes}
use Rattle.pol_pattern.proofs.upgrading.upgraded.Given as goal

-- what was written so far, and then the rest, is the whole
abbrev pub invariant-bytes : goal.invariant-bytes
invariant-bytes l = l.source ++ upgraded_from l.in_class l.quoted (drop l.byte-index l.bytes) ≡ upgraded_bytes l.bytes
