use Rattle.std.proofs.Common.{◌≡◌, length}
use Rattle.dry_run.proofs.access.c_path.Given as goal

-- the text keeps its length
abbrev pub invariant-bytes : goal.invariant-bytes
invariant-bytes l = length l.text ≡ 4096
