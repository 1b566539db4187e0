-- What a client types within an authentication by ASCII (RFC 8907, sections 5.2 and 5.4.2.1).
use Rattle.std.specs.Prelude.{ℕ, Bool, not, ◌&&◌, ◌==◌, Option, Some, None, if◌then◌else◌}
use Rattle.tac_authen.specs.Reply.{authen_status_getuser, authen_status_getpass}
use Rattle.tac_ask.specs.declared.turn.Typing.{Typing}
use Rattle.tac_ask.specs.declared.turn.Typing.TheVariants.{Name, Password}

-- the name and the password where they are asked for, each once; nothing else is typed
abbrev pub typing_for : ℕ → Bool → Bool → Option Typing
typing_for status has_named has_typed =
    if status == authen_status_getuser && not has_named then Some Name
    else if status == authen_status_getpass && not has_typed then Some Password else None
