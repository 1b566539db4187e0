-- As what a packet is counted, and what of a policy is (docs/REFERENCE.md, "The lines of status").
use Rattle.std.specs.Prelude.{ℕ, ◌==◌, List, length}
use Rattle.std.specs.Prelude.{Option, Some, None, if◌then◌else◌}
use Rattle.std.specs.List.{sum_by}
use Rattle.pol_text.specs.declared.subject.Subject.{Subject}
use Rattle.tac_authen.specs.declared.reply.AuthenReply.{AuthenReply}
use Rattle.tac_authen.specs.Reply.{authen_status_pass, authen_status_fail, authen_status_error}
use Rattle.tac_request.specs.declared.author_reply.AuthorReply.{AuthorReply}
use Rattle.tac_request.specs.AuthorReply.{author_status_pass_add}
use Rattle.tac_request.specs.declared.acct_reply.AcctReply.{AcctReply}
use Rattle.tac_request.specs.AcctReply.{acct_status_success}
use Rattle.tac_conn.specs.declared.reading.Reading.{Reading}
use Rattle.tac_conn.specs.declared.reading.Reading.TheVariants as readings
use Rattle.tac_conn.specs.declared.reply.Reply.{Reply}
use Rattle.tac_conn.specs.declared.reply.ReplyBody.{ReplyBody}
use Rattle.tac_conn.specs.declared.reply.ReplyBody.TheVariants.{Authentication, Authorisation}
use Rattle.tac_conn.specs.declared.reply.ReplyBody.TheVariants.{Accounting, Empty}
use Rattle.tac_audit.specs.declared.notice.Notice.{Notice}
use Rattle.tac_audit.specs.declared.notice.Notice.TheVariants as notices
use Rattle.tac_status.specs.declared.request_counts.Request.{Request}
use Rattle.tac_status.specs.declared.request_counts.Request.TheVariants as requests

-- ---- packets

-- a login counts at its last reply (RFC 8907, section 5.2)
abbrev pub login_as : AuthenReply → Option Request
login_as reply =
    if reply.status.0 == authen_status_pass then Some requests.LoginPass
    else if reply.status.0 == authen_status_fail then Some requests.LoginFail
    else if reply.status.0 == authen_status_error then Some requests.LoginError
    else None

-- a command or another service (section 6.2)
abbrev pub command_as : AuthorReply → Request
command_as reply =
    if reply.status.0 == author_status_pass_add then requests.CommandPassAdd
    else requests.CommandFail

-- a record (section 7.2)
abbrev pub account_as : AcctReply → Request
account_as reply =
    if reply.status.0 == acct_status_success then requests.AccountSuccess
    else requests.AccountError

-- a request by its reply
abbrev pub answered_as : ReplyBody → Option Request
answered_as (Authentication reply) = login_as reply
answered_as (Authorisation reply) = Some (command_as reply)
answered_as (Accounting reply) = Some (account_as reply)
answered_as Empty = None

abbrev pub replied_as : Option Reply → Option Request
replied_as (Some reply) = answered_as reply.body
replied_as None = None

-- a packet by what it was read as: a login that goes on counts as nothing yet, and an invalid body
-- as that, whatever it is answered
abbrev pub packet_as : Reading → Option Reply → Option Request
packet_as readings.GoesOn reply = None
packet_as (readings.Login asker) reply = replied_as reply
packet_as (readings.Command asker arguments line) reply = replied_as reply
packet_as (readings.Account asker kind task arguments) reply = replied_as reply
packet_as readings.BadBody reply = Some requests.BadBody
packet_as readings.Unserved reply = Some requests.UnservedType
packet_as readings.OutOfTurn reply = Some requests.Unanswered
packet_as readings.Aborted reply = Some requests.Unanswered

-- what a witness of a connection is told
abbrev pub counted_as : Notice → Option Request
counted_as (notices.Packet received reply) = packet_as received.reading reply
counted_as (notices.BadHeader header) = Some requests.BadHeader

-- ---- a policy

-- how many rules these have of their own
abbrev pub rules_of : List Subject → ℕ
rules_of subjects = sum_by (λ subject. length subject.rules) subjects
