-- How the lint of a devices' file ends (docs/DEVICES.md).
use Rattle.std.specs.Prelude.{ℕ, List}
use Rattle.tac_devices_lint.specs.Ends.{IsEnd}
use Rattle.tac_devices_lint.specs.declared.lint.DevicesLintEnd.{DevicesLintEnd}

-- of a text; what the lint prints is said by no definition
abbrev pub IsLinted : List ℕ → List ℕ → DevicesLintEnd → Type 0
IsLinted text printed end = IsEnd text end
