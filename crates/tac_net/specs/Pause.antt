-- How long is paused where no connection can be accepted.
use Rattle.std.specs.Prelude.{◌*◌, min}
use Rattle.tac_net.specs.declared.pause.Pause.{Pause}

-- the first pause in a row is of 50 milliseconds
abbrev pub first : Pause
first = record { milliseconds = 50 }

-- each other one is twice as long as the one before, up to a second
abbrev pub next : Pause → Pause
next pause = record { milliseconds = min (pause.milliseconds * 2) 1000 }
