-- What is recorded of an accounting request (RFC 8907, sections 7.1 and 8.3).
use Rattle.std.specs.Prelude.{ℕ, ◌^◌, Bool, true, false, List, [], length, ◌&&◌, nat_lt, Option}
use Rattle.std.specs.Prelude.{Some, None, slice_get, unwrap_or, option_and_then, if◌then◌else◌}
use Rattle.std.specs.Prelude.{codes}
use Rattle.std.specs.Char.{is_ascii_digit}
use Rattle.std.specs.List.{list_all}
use Rattle.std.specs.Option.{option_map}
use Rattle.std.specs.Str.Parse.{digits_value}
use Rattle.tac_wire.specs.Flag.{has_flag}
use Rattle.basics.specs.Symbol.{is_text}
use Rattle.tac_request.specs.declared.record.AcctKind.{AcctKind}
use Rattle.tac_request.specs.declared.record.AcctKind.TheVariants.{Begin, Stop, Watch, Update}
use Rattle.tac_request.specs.declared.record.Record.{Record}
use Rattle.tac_request.specs.Line.{has_sign, values_under, joined}

-- ---- the flags of a record, whose names in the standard begin with TAC_PLUS_

abbrev pub acct_flag_start : ℕ
acct_flag_start = 0x02

abbrev pub acct_flag_stop : ℕ
acct_flag_stop = 0x04

abbrev pub acct_flag_watchdog : ℕ
acct_flag_watchdog = 0x08

-- what the flags START, STOP and WATCHDOG mean together; no other set of them means anything
abbrev pub meaning : Bool → Bool → Bool → Option AcctKind
meaning true false false = Some Begin
meaning false true false = Some Stop
meaning false false true = Some Watch
meaning true false true = Some Update
meaning start stop watchdog = None

-- the kind of a record with these flags; the other flags don't matter
abbrev pub kind_of : ℕ → Option AcctKind
kind_of flags =
    meaning (has_flag acct_flag_start flags) (has_flag acct_flag_stop flags)
    (has_flag acct_flag_watchdog flags)

-- ---- what is kept of a request

-- the value of the first argument with this name; an argument without a sign has none
abbrev pub first_under : List ℕ → List (List ℕ) → Option (List ℕ)
first_under name args = slice_get (values_under name args) 0

-- the seconds that one or more decimal digits tell, where they fit 32 bits
abbrev pub seconds_of : List ℕ → Option ℕ
seconds_of digits =
    let seconds = digits_value 10 digits in
    if nat_lt 0 (length digits) && list_all is_ascii_digit digits && nat_lt seconds (2 ^ 32)
    then Some seconds else None

abbrev pub task_of : List (List ℕ) → List ℕ
task_of args = unwrap_or (first_under (codes "task_id") args) []

abbrev pub elapsed_of : List (List ℕ) → ℕ
elapsed_of args = unwrap_or (option_and_then seconds_of (first_under (codes "elapsed_time") args)) 0

-- the line of the first command and each of its arguments, whatever the service is
abbrev pub command_of : List (List ℕ) → Option (List ℕ)
command_of args =
    if list_all has_sign args
    then option_map (λ cmd. joined cmd (values_under (codes "cmd-arg") args))
    (first_under (codes "cmd") args)
    else None

-- the line, if there is one, and all its bytes are symbols
abbrev pub text_line : Option (List ℕ) → Option (List ℕ)
text_line None = None
text_line (Some line) = if is_text line then Some line else None

-- what is kept of a request of this user with these arguments that tells of this kind
abbrev pub record_of : List ℕ → List (List ℕ) → AcctKind → Record
record_of user args kind = record {
  user = user;
  kind = kind;
  task = task_of args;
  elapsed = elapsed_of args;
  line = text_line (command_of args);
}
