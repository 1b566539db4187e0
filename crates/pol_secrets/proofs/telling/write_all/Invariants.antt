use Rattle.std.proofs.Common.{◌≡◌, ◌++◌, take}
use Rattle.pol_secrets.specs.Telling.{secret_lines}
use Rattle.pol_secrets.proofs.telling.write_all.Given as goal

-- the lines of the first changes are added
abbrev pub invariant-changes : goal.invariant-changes
invariant-changes l = l.out.items ≡ l.fn.out.items ++ secret_lines (take l.change-index l.changes)
