-- What is told of a packet, by what it was read as and by what it was answered.
use Rattle.std.specs.Prelude.{ℕ, List, [], ◌==◌, Option, Some, None, if◌then◌else◌}
use Rattle.std.specs.Option.{option_map}
use Rattle.tac_authen.specs.Reply.{authen_status_pass, authen_status_fail, authen_status_error}
use Rattle.tac_request.specs.AuthorReply.{author_status_pass_add, author_status_fail}
use Rattle.tac_request.specs.AcctReply.{acct_status_success}
use Rattle.tac_conn.specs.declared.reading.Reading.{Reading}
use Rattle.tac_conn.specs.declared.reading.Reading.TheVariants as readings
use Rattle.tac_conn.specs.declared.reading.Received.{Received}
use Rattle.tac_conn.specs.declared.reply.Reply.{Reply}
use Rattle.tac_conn.specs.declared.reply.ReplyBody.{ReplyBody}
use Rattle.tac_conn.specs.declared.reply.ReplyBody.TheVariants as replies
use Rattle.tac_audit.specs.declared.event.Status.{Status}
use Rattle.tac_audit.specs.declared.event.Status.TheVariants.{Pass, Fail, PassAdd, Success, Error}
use Rattle.tac_audit.specs.declared.event.Said.{Said}
use Rattle.tac_audit.specs.declared.event.Why.TheVariants.{BadBody, UnservedType, OutOfTurn}
use Rattle.tac_audit.specs.declared.event.Why.TheVariants.{Aborted}
use Rattle.tac_audit.specs.Told.{Told, Login, Command, Account, Refused}

-- ---- what a reply says

-- the status of a last reply; questions have none
abbrev pub authen_status : ℕ → Option Status
authen_status status =
    if status == authen_status_pass then Some Pass
    else if status == authen_status_fail then Some Fail
    else if status == authen_status_error then Some Error
    else None

abbrev pub author_status : ℕ → Status
author_status status =
    if status == author_status_pass_add then PassAdd
    else if status == author_status_fail then Fail
    else Error

abbrev pub acct_status : ℕ → Status
acct_status status = if status == acct_status_success then Success else Error

abbrev pub said : Status → List ℕ → List (List ℕ) → Said
said status text given = record { status = status; text = text; given = given }

-- what a last reply says; a question says nothing, and a header alone neither. Only one of
-- authorisation has arguments
abbrev pub said_by : ReplyBody → Option Said
said_by replies.Empty = None
said_by (replies.Authentication reply) =
    option_map (λ status. said status reply.msg.items []) (authen_status reply.status.0)
said_by (replies.Authorisation reply) =
    Some (said (author_status reply.status.0) reply.msg.items reply.args)
said_by (replies.Accounting reply) = Some (said (acct_status reply.status.0) reply.msg.items [])

abbrev pub said_in : Option Reply → Option Said
said_in None = None
said_in (Some reply) = said_by reply.body

-- ---- what is told

-- of a packet that was read so, by what its last reply says; nothing while a login goes on
abbrev pub told_as : Reading → Option Said → Option Told
told_as readings.GoesOn said = None
told_as (readings.Login asker) said = option_map (λ said. Login asker said) said
told_as (readings.Command asker arguments line) said =
    option_map (λ said. Command asker arguments line said) said
told_as (readings.Account asker kind task arguments) said =
    option_map (λ said. Account asker kind task arguments said) said
told_as readings.BadBody said = Some (Refused BadBody)
told_as readings.Unserved said = Some (Refused UnservedType)
told_as readings.OutOfTurn said = Some (Refused OutOfTurn)
told_as readings.Aborted said = Some (Refused Aborted)

-- of a packet that was read so and has this reply, or none
abbrev pub told_of : Received → Option Reply → Option Told
told_of received reply = told_as received.reading (said_in reply)
