-- The replies of the server (RFC 8907, sections 5.2, 6.2 and 7.2).
use Rattle.std.specs.Prelude.{◌≡◌, ℕ, ◌+◌, List, [], ◌++◌, ◌∷◌, length, codes, Bool, true, false}
use Rattle.std.specs.Prelude.{◌==◌}
use Rattle.pol_names.specs.Decision.{verdict_text, by_text}
use Rattle.pol_names.specs.SubjectId.{subject_text}
use Rattle.pol_names.specs.declared.decision.By.{By}
use Rattle.pol_names.specs.declared.decision.Verdict.TheVariants.{Deny}
use Rattle.pol_names.specs.declared.subject_id.SubjectId.{SubjectId}
use Rattle.tac_wire.specs.declared.header.Header.{Header}
use Rattle.tac_authen.specs.declared.reply.AuthenStatus.{AuthenStatus}
use Rattle.tac_authen.specs.Reply.{reply_bytes, authen_status_pass}
use Rattle.tac_authen.specs.Reply.{authen_status_fail, authen_status_getuser}
use Rattle.tac_authen.specs.Reply.{authen_status_getpass, authen_status_error}
use Rattle.tac_request.specs.Arguments.{level_arguments}
use Rattle.tac_request.specs.declared.author_reply.AuthorStatus.{AuthorStatus}
use Rattle.tac_request.specs.AuthorReply.{author_reply, author_status_pass_add}
use Rattle.tac_request.specs.AuthorReply.{author_status_fail, author_status_error}
use Rattle.tac_request.specs.AcctReply.{acct_reply, acct_status_success, acct_status_error}
use Rattle.tac_conn.specs.declared.ask.Answer.{Answer}
use Rattle.tac_conn.specs.declared.ask.Answer.TheVariants.{Pass, Fail, UnknownUser, Unprintable}
use Rattle.tac_conn.specs.declared.ask.Answer.TheVariants.{Denied, Permitted, Unserved, Refused}
use Rattle.tac_conn.specs.declared.ask.Answer.TheVariants.{Granted, Stored, BookFull}
use Rattle.tac_conn.specs.declared.ask.AskKind.{AskKind}
use Rattle.tac_conn.specs.declared.ask.AskKind.TheVariants as about
use Rattle.tac_conn.specs.declared.packet.Packet.{Packet}
use Rattle.tac_conn.specs.declared.reply.Reply.{Reply}
use Rattle.tac_conn.specs.declared.reply.ReplyBody.{ReplyBody}
use Rattle.tac_conn.specs.declared.reply.ReplyBody.TheVariants.{Authentication, Authorisation}
use Rattle.tac_conn.specs.declared.reply.ReplyBody.TheVariants.{Accounting, Empty}

-- ---- a reply as a packet

abbrev pub body_bytes : ReplyBody → List ℕ
body_bytes (Authentication reply) = reply_bytes reply
body_bytes (Authorisation reply) = author_reply reply
body_bytes (Accounting reply) = acct_reply reply
body_bytes Empty = []

-- the packet of a reply: the length in its header is that of its body
abbrev pub packet_of : Reply → Packet
packet_of reply =
    let body = body_bytes reply.body
    in record { header = record reply.header { length = length body }; body = body }

-- whether a reply grants what was asked for
abbrev pub is_success : ReplyBody → Bool
is_success (Authentication reply) = reply.status.0 == authen_status_pass
is_success (Authorisation reply) = reply.status.0 == author_status_pass_add
is_success (Accounting reply) = reply.status.0 == acct_status_success
is_success Empty = false

-- a reply to a packet of this header: the same version, type and session, and the next seq_no
pub record IsReplyTo (header : Header) (reply : Reply) : Type 0 where
  pub version : reply.header.version ≡ header.version
  pub kind : reply.header.kind ≡ header.kind
  pub session : reply.header.session ≡ header.session
  pub seq : reply.header.seq ≡ header.seq + 1

-- ---- authentication

-- a reply that shows what the user types, if it asks for anything
abbrev pub authen : AuthenStatus → List ℕ → ReplyBody
authen status text =
    Authentication (record { status = status; noecho = false; msg = record { items = text } })

abbrev pub pass : ReplyBody
pass = authen (record { 0 = authen_status_pass }) []

abbrev pub fail : ReplyBody
fail = authen (record { 0 = authen_status_fail }) (codes "Authentication failed")

abbrev pub authen_error : List ℕ → ReplyBody
authen_error text = authen (record { 0 = authen_status_error }) text

abbrev pub name_question : ReplyBody
name_question = authen (record { 0 = authen_status_getuser }) (codes "Username: ")

-- a question whose answer isn't shown while the user types it
abbrev pub secret_question : ReplyBody
secret_question =
    Authentication (record {
      status = record { 0 = authen_status_getpass };
      noecho = true;
      msg = record { items = codes "Password: " };
    })

-- what a user of this name is asked for: the empty text is no name
abbrev pub question_to : List ℕ → ReplyBody
question_to [] = name_question
question_to (byte ∷ name) = secret_question

-- ---- authorisation

-- a reply without arguments
abbrev pub author : AuthorStatus → List ℕ → ReplyBody
author status text =
    Authorisation (record { status = status; msg = record { items = text }; args = [] })

abbrev pub refusal : List ℕ → ReplyBody
refusal text = author (record { 0 = author_status_fail }) text

-- a PASS_ADD without text, with these arguments
abbrev pub permission : List (List ℕ) → ReplyBody
permission arguments =
    Authorisation (record {
      status = record { 0 = author_status_pass_add };
      msg = record { items = [] };
      args = arguments;
    })

abbrev pub author_error : List ℕ → ReplyBody
author_error text = author (record { 0 = author_status_error }) text

-- that a line is denied, and by what
abbrev pub denial : By → List ℕ
denial by = verdict_text Deny ++ by_text by

-- that a service is refused, and by whom
abbrev pub refused_by : SubjectId → List ℕ
refused_by owner = codes "refused by " ++ subject_text owner

-- ---- accounting

-- a SUCCESS without text
abbrev pub success : ReplyBody
success =
    Accounting (record {
      status = record { 0 = acct_status_success };
      msg = record { items = [] };
    })

abbrev pub acct_error : List ℕ → ReplyBody
acct_error text =
    Accounting (record {
      status = record { 0 = acct_status_error };
      msg = record { items = text };
    })

-- ---- what is said

-- the ERROR that says that a body is invalid
abbrev pub bad_body : AskKind → ReplyBody
bad_body about.Authentication = authen_error (codes "bad body")
bad_body about.Authorisation = author_error (codes "bad body")
bad_body about.Accounting = acct_error (codes "bad body")

-- what carries an answer of the desk
abbrev pub answer_body : Answer → ReplyBody
answer_body Pass = pass
answer_body Fail = fail
answer_body UnknownUser = refusal (codes "unknown user")
answer_body Unprintable = refusal (codes "unprintable command")
answer_body (Denied by) = refusal (denial by)
answer_body (Permitted level) = permission (level_arguments level)
answer_body Unserved = refusal (codes "unsupported service")
answer_body (Refused owner) = refusal (refused_by owner)
answer_body (Granted arguments) = permission arguments
answer_body Stored = success
answer_body BookFull = acct_error (codes "records full")
