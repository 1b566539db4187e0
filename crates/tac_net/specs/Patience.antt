-- When a server gives a device up (docs/REFERENCE.md, "Silent and hostile devices"). Times are in
-- milliseconds, by a clock that may not be readable: then there is no time.
use Rattle.std.specs.Prelude.{ℕ, ◌*◌, ◌-◌, min, ◌==◌, Bool, true, false, nat_le}
use Rattle.std.specs.Prelude.{Option, Some, None, if◌then◌else◌}
use Rattle.tac_net.specs.declared.patience.Idle.{Idle}
use Rattle.tac_net.specs.declared.patience.Patience.{Patience}

-- ---- the steps

-- a connection was accepted. Bytes that come later move nothing, so a device that sends a byte a
-- second is as silent as one that sends none
abbrev pub accepted : Option ℕ → Patience
accepted now = record { since = now; has_replied = false; waits = None }

-- a reply was taken whole: the device is silent since then, and nothing waits
abbrev pub taken : Option ℕ → Patience
taken now = record { since = now; has_replied = true; waits = None }

-- the first of these times that there is
abbrev pub or_else : Option ℕ → Option ℕ → Option ℕ
or_else None second = second
or_else (Some first) second = Some first

-- a reply was not taken, or not whole: it waits since the first time that it wasn't
abbrev pub untaken : Patience → Option ℕ → Patience
untaken patience now = record patience { waits = or_else patience.waits now }

-- ---- giving up

-- in milliseconds, for so many seconds: ten seconds or less before its first reply, and after that
-- as long as is said. 0 seconds are for ever
abbrev pub allowed_by : ℕ → Bool → Option ℕ
allowed_by seconds has_replied =
    if seconds == 0 then None
    else if has_replied then Some (seconds * 1000) else Some (min (seconds * 1000) 10000)

-- how long it is borne with: where its last reply asked for a name or a password by the one
-- number, else by the other
abbrev pub allowed : Patience → Idle → Bool → Option ℕ
allowed patience idle asks =
    allowed_by (if asks then idle.login else idle.idle) patience.has_replied

-- so much time has passed since then. For ever never passes, and without a time none does
abbrev pub has_passed : Option ℕ → Option ℕ → Option ℕ → Bool
has_passed (Some allowed) (Some start) (Some now) = nat_le allowed (now - start)
has_passed (Some allowed) (Some start) None = false
has_passed (Some allowed) None now = false
has_passed None start now = false

-- it is given up: its reply has waited for so long, or else none was taken for so long
abbrev pub is_over : Patience → Idle → Bool → Option ℕ → Bool
is_over patience idle asks now =
    has_passed (allowed patience idle asks) (or_else patience.waits patience.since) now
