-- Which answer says that memory ran out.
use Rattle.std.specs.Prelude.{Bool, true, false}
use Rattle.posix_expression.specs.declared.unsaid.Unsaid.{Unsaid}
use Rattle.posix_expression.specs.declared.unsaid.Unsaid.TheVariants as why

abbrev pub is_memory : Unsaid → Bool
is_memory why.Memory = true
is_memory other = false
