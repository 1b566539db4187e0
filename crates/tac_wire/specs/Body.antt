-- What the readers of bodies share.
use Rattle.std.specs.Prelude.{ℕ, Bool, true, false}
use Rattle.tac_wire.specs.declared.body.BodyFault.{BodyFault}
use Rattle.tac_wire.specs.declared.body.BodyFault.TheVariants.{Short, LengthSum, Memory, TooLong}

-- the longest server_msg that this server sends
abbrev pub max_message : ℕ
max_message = 64

-- the fault that says that memory ran out
abbrev pub is_memory : BodyFault → Bool
is_memory Short = false
is_memory LengthSum = false
is_memory Memory = true
is_memory TooLong = false
