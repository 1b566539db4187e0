-- Bodies of packets that a client sends, by the bytes that the server's readers read.
use Rattle.std.specs.Prelude.{ℕ, List, length, Bool, true, false, ◌||◌, nat_lt, Result, Ok, Err}
use Rattle.std.specs.Prelude.{if◌then◌else◌}
use Rattle.std.specs.List.{list_any}
use Rattle.tac_authen.specs.declared.start.Start.{Start}
use Rattle.tac_authen.specs.Start.{start_bytes}
use Rattle.tac_authen.specs.declared.continuation.Continue.{Continue}
use Rattle.tac_authen.specs.Continue.{continue_bytes}
use Rattle.tac_request.specs.declared.author_request.AuthorRequest.{AuthorRequest}
use Rattle.tac_request.specs.AuthorRequest.{author_request}
use Rattle.tac_request.specs.AcctRequest.{acct_request, with_flags}
use Rattle.tac_ask.specs.declared.fault.AskFault.{AskFault}
use Rattle.tac_ask.specs.declared.fault.AskFault.TheVariants.{Unsendable, Memory}

-- the fault that says that memory ran out
abbrev pub is_memory : AskFault → Bool
is_memory Memory = true
is_memory fault = false

-- ---- what has no packet: a length or a count is one byte, but for the two of a CONTINUE

abbrev pub is_long : List ℕ → Bool
is_long text = nat_lt 255 (length text)

abbrev pub is_long_start : Start → Bool
is_long_start start =
    is_long start.user || is_long start.port || is_long start.rem_addr || is_long start.extra

abbrev pub is_long_continue : Continue → Bool
is_long_continue answer = nat_lt 65535 (length answer.user_msg) || nat_lt 65535 (length answer.extra)

abbrev pub is_long_request : AuthorRequest → Bool
is_long_request request =
    is_long request.user || is_long request.port || is_long request.rem_addr
    || nat_lt 255 (length request.args) || list_any is_long request.args

-- ---- the bodies

abbrev pub body_or_fault : Bool → List ℕ → Result (List ℕ) AskFault
body_or_fault is_too_long body = if is_too_long then Err Unsendable else Ok body

abbrev pub start_body : Start → Result (List ℕ) AskFault
start_body start = body_or_fault (is_long_start start) (start_bytes start)

abbrev pub continue_body : Continue → Result (List ℕ) AskFault
continue_body answer = body_or_fault (is_long_continue answer) (continue_bytes answer)

abbrev pub author_body : AuthorRequest → Result (List ℕ) AskFault
author_body request = body_or_fault (is_long_request request) (author_request request)

abbrev pub acct_body : ℕ → AuthorRequest → Result (List ℕ) AskFault
acct_body flags request =
    body_or_fault (is_long_request request) (acct_request (with_flags flags request))
