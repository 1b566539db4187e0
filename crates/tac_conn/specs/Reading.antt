-- What the body of a packet is read as, by its session (RFC 8907, sections 4.1 to 4.4, and 5 to 7).
use Rattle.std.specs.Prelude.{ℕ, List, [], Bool, ◌==◌, Option, Some, None, if◌then◌else◌}
use Rattle.std.specs.Result.{result_ok}
use Rattle.tac_wire.specs.Flag.{has_flag}
use Rattle.tac_wire.specs.Header.{last_seq_no}
use Rattle.tac_authen.specs.declared.start.Start.{Start}
use Rattle.tac_authen.specs.Start.{start_of}
use Rattle.tac_authen.specs.declared.continuation.Continue.{Continue}
use Rattle.tac_authen.specs.Continue.{continue_of, continue_flag_abort}
use Rattle.tac_request.specs.declared.author_request.AuthorRequest.{AuthorRequest}
use Rattle.tac_request.specs.AuthorRequest.{author_request_of}
use Rattle.tac_request.specs.declared.acct_request.AcctRequest.{AcctRequest}
use Rattle.tac_request.specs.AcctRequest.{acct_request_of}
use Rattle.tac_request.specs.declared.line.LineOf.{LineOf}
use Rattle.tac_request.specs.declared.line.LineOf.TheVariants.{Line, BadArgument, NotShell}
use Rattle.tac_request.specs.Line.{line_of}
use Rattle.tac_request.specs.Record.{kind_of as acct_kind_of, task_of}
use Rattle.tac_conn.specs.declared.ask.AskKind.{AskKind}
use Rattle.tac_conn.specs.declared.ask.AskKind.TheVariants.{Authentication, Authorisation}
use Rattle.tac_conn.specs.declared.ask.AskKind.TheVariants.{Accounting}
use Rattle.tac_conn.specs.declared.ask.Ask.{Ask}
use Rattle.tac_conn.specs.declared.ask.Ask.TheVariants.{Authenticate, Authorise, Serve}
use Rattle.tac_conn.specs.declared.ask.Ask.TheVariants.{Account as Store}
use Rattle.tac_conn.specs.declared.packet.Packet.{Packet}
use Rattle.tac_conn.specs.declared.reading.Asker.{Asker}
use Rattle.tac_conn.specs.declared.reading.Reading.{Reading}
use Rattle.tac_conn.specs.declared.reading.Reading.TheVariants.{GoesOn, Login, Command, Account}
use Rattle.tac_conn.specs.declared.reading.Reading.TheVariants.{BadBody, Unserved, OutOfTurn}
use Rattle.tac_conn.specs.declared.reading.Reading.TheVariants.{Aborted}
use Rattle.tac_conn.specs.declared.session.Session.{Session}
use Rattle.tac_conn.specs.declared.outcome.Outcome.{Outcome}
use Rattle.tac_conn.specs.declared.outcome.Outcome.TheVariants as comes_to
use Rattle.tac_conn.specs.Asker.{start_asker, request_asker, acct_asker, named, unnamed}
use Rattle.tac_conn.specs.Judging.{kind_of, is_in_turn}

-- ---- a body

abbrev pub start_as : Option Start → Reading
start_as None = BadBody
start_as (Some start) = Login (start_asker start)

-- within the login of this asker: what is typed is no part of it
abbrev pub answer_as : Asker → Continue → Reading
answer_as asker answer =
    if has_flag continue_flag_abort answer.flags then Aborted else Login asker

abbrev pub continue_as : Asker → Option Continue → Reading
continue_as asker None = BadBody
continue_as asker (Some answer) = answer_as asker answer

-- the line, where the arguments make one
abbrev pub line_text : LineOf → Option (List ℕ)
line_text (Line line) = Some line
line_text BadArgument = None
line_text NotShell = None

abbrev pub request_as : Option AuthorRequest → Reading
request_as None = BadBody
request_as (Some request) =
    Command (request_asker request) request.args (line_text (line_of request.args))

abbrev pub record_as : Option AcctRequest → Reading
record_as None = BadBody
record_as (Some request) =
    Account (acct_asker request) (acct_kind_of request.flags) (task_of request.args) request.args

-- the body of a packet that begins a session
abbrev pub opening_as : AskKind → List ℕ → Reading
opening_as Authentication body = start_as (result_ok (start_of body))
opening_as Authorisation body = request_as (result_ok (author_request_of body))
opening_as Accounting body = record_as (result_ok (acct_request_of body))

-- the body of a packet that comes in its turn
abbrev pub body_as : Option Session → AskKind → List ℕ → Reading
body_as (Some session) kind body = continue_as session.asker (result_ok (continue_of body))
body_as None kind body = opening_as kind body

-- ---- a packet

abbrev pub kind_as : Bool → ℕ → Option Session → Packet → Option AskKind → Reading
kind_as single count session packet None = Unserved
kind_as single count session packet (Some kind) =
    if is_in_turn single count session kind packet.header
    then body_as session kind packet.body else OutOfTurn

-- on a connection that is single or isn't, by how many sessions are open, and by its own
unfoldable pub read_as : Bool → ℕ → Option Session → Packet → Reading
read_as single count session packet =
    if packet.header.seq == last_seq_no then OutOfTurn
    else kind_as single count session packet (kind_of packet.header)

-- ---- what is told of it, and what an ask has of it

-- nothing is told of a login that goes on
abbrev pub noted : Outcome → Reading → Reading
noted (comes_to.Question reply session) reading = GoesOn
noted (comes_to.Reply reply ends) reading = reading
noted (comes_to.Asks ask slot) reading = reading
noted comes_to.Silent reading = reading
noted comes_to.Close reading = reading

-- without the user, the line and the task, which an ask has
abbrev pub less : Reading → Reading
less GoesOn = GoesOn
less (Login asker) = Login (unnamed asker)
less (Command asker arguments line) = Command (unnamed asker) arguments None
less (Account asker kind task arguments) = Account (unnamed asker) kind [] arguments
less BadBody = BadBody
less Unserved = Unserved
less OutOfTurn = OutOfTurn
less Aborted = Aborted

-- .. and with these
abbrev pub logged_in : List ℕ → Reading → Reading
logged_in user (Login asker) = Login (named asker user)
logged_in user reading = reading

abbrev pub commanded : List ℕ → List ℕ → Reading → Reading
commanded user told (Command asker arguments line) =
    Command (named asker user) arguments (Some told)
commanded user told reading = reading

abbrev pub served : List ℕ → Reading → Reading
served user (Command asker arguments line) = Command (named asker user) arguments line
served user reading = reading

abbrev pub accounted : List ℕ → List ℕ → Reading → Reading
accounted user told (Account asker kind task arguments) =
    Account (named asker user) kind told arguments
accounted user told reading = reading

-- .. which this ask has
abbrev pub rejoined : Ask → Reading → Reading
rejoined (Authenticate user service proof) reading = logged_in user reading
rejoined (Authorise user line) reading = commanded user line reading
rejoined (Serve user service protocol) reading = served user reading
rejoined (Store item) reading = accounted item.user item.task reading

-- what the judge has of it beside the outcome
abbrev pub beside : Outcome → Reading → Reading
beside (comes_to.Question reply session) reading = GoesOn
beside (comes_to.Reply reply ends) reading = reading
beside (comes_to.Asks ask slot) reading = less reading
beside comes_to.Silent reading = reading
beside comes_to.Close reading = reading

-- a packet that was judged: what it was read as, and its outcome
abbrev pub judged_as : Outcome → Reading → Reading × Outcome
judged_as outcome reading = (beside outcome reading, outcome)
