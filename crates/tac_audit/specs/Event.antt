-- The line that is written of an event (docs/AUDIT.md).
use Rattle.std.specs.Prelude.{ℕ, List, [], ◌∷◌, ◌++◌, codes, Option, Some, None}
use Rattle.std.specs.Int.{to_be_bytes, w32}
use Rattle.std.specs.List.{flat_map}
use Rattle.std.specs.Option.{option_map}
use Rattle.std.specs.Fmt.{decimal}
use Rattle.tac_request.specs.declared.record.AcctKind.{AcctKind}
use Rattle.tac_request.specs.declared.record.AcctKind.TheVariants.{Begin, Stop, Watch, Update}
use Rattle.tac_conn.specs.declared.reading.Asker.{Asker}
use Rattle.tac_audit.specs.declared.event.Status.{Status}
use Rattle.tac_audit.specs.declared.event.Status.TheVariants as statuses
use Rattle.tac_audit.specs.declared.event.Said.{Said}
use Rattle.tac_audit.specs.declared.event.Why.{Why}
use Rattle.tac_audit.specs.declared.event.Why.TheVariants as reasons
use Rattle.tac_audit.specs.Told.{Told, Login, Command, Account, Refused}
use Rattle.tac_audit.specs.declared.event.CameBy.{CameBy}
use Rattle.tac_audit.specs.declared.event.CameBy.TheVariants.{Key, OldKey, Tls}
use Rattle.tac_audit.specs.declared.event.Named.{Named}
use Rattle.tac_audit.specs.declared.event.Origin.{Origin}
use Rattle.tac_audit.specs.Told.{Event}
use Rattle.tac_audit.specs.declared.event.WhyTurnedAway.{WhyTurnedAway}
use Rattle.tac_audit.specs.declared.event.WhyTurnedAway.TheVariants as refusals
use Rattle.tac_audit.specs.declared.event.TurnedAway.{TurnedAway}
use Rattle.tac_audit.specs.declared.event.Typist.{Typist}
use Rattle.tac_audit.specs.declared.event.Typist.TheVariants.{Anyone, Operator}
use Rattle.tac_audit.specs.declared.event.Typed.{Typed}
use Rattle.tac_audit.specs.Json.{hex_byte, text_json, optional_json, texts_json, member}

-- ---- words

-- the status of a reply, as RFC 8907 names it (sections 5.2, 6.2 and 7.2)
abbrev pub status_word : Status → List ℕ
status_word statuses.Pass = codes "PASS"
status_word statuses.Fail = codes "FAIL"
status_word statuses.PassAdd = codes "PASS_ADD"
status_word statuses.Success = codes "SUCCESS"
status_word statuses.Error = codes "ERROR"

abbrev pub why_word : Why → List ℕ
why_word reasons.BadBody = codes "bad body"
why_word reasons.UnservedType = codes "unserved type"
why_word reasons.OutOfTurn = codes "out of turn"
why_word reasons.Aborted = codes "aborted"
why_word reasons.BadHeader = codes "bad header"

-- why connections were refused
abbrev pub turned_away_word : WhyTurnedAway → List ℕ
turned_away_word refusals.UnknownDevice = codes "unknown device"
turned_away_word refusals.NoKey = codes "no key"
turned_away_word refusals.NoTls = codes "no tls"
turned_away_word refusals.NoCertificate = codes "no certificate"
turned_away_word refusals.OtherCertificate = codes "other certificate"
turned_away_word refusals.BadProxyHeader = codes "bad proxy header"
turned_away_word refusals.TooManyConnections = codes "too many connections"

abbrev pub kind_word : AcctKind → List ℕ
kind_word Begin = codes "start"
kind_word Stop = codes "stop"
kind_word Watch = codes "watchdog"
kind_word Update = codes "update"

-- eight hexadecimal digits
unfoldable pub session_digits : ℕ → List ℕ
session_digits session = flat_map hex_byte (to_be_bytes w32 session)

-- ---- members

-- how a device came, where it isn't by its key: by its old key, or inside TLS with a certificate of
-- this name, null where the proxy told none
abbrev pub came_by_json : CameBy → List ℕ
came_by_json Key = []
came_by_json OldKey = member (codes "key") (text_json (codes "old"))
came_by_json (Tls name) = member (codes "tls") (optional_json name)

-- what a devices' file says of a device
abbrev pub named_json : Option Named → List ℕ
named_json None = []
named_json (Some named) =
    member (codes "name") (text_json named.name) ++ came_by_json named.came_by

-- where a line comes from
unfoldable pub origin_json : Origin → List ℕ
origin_json origin = member (codes "device") (text_json origin.device) ++ named_json origin.named

-- who asks, and from where
unfoldable pub asker_json : Asker → List ℕ
asker_json asker =
    member (codes "user") (text_json asker.user)
    ++ member (codes "port") (text_json asker.port)
    ++ member (codes "from") (text_json asker.from)
    ++ member (codes "privilege") (decimal asker.privilege)
    ++ member (codes "service") (decimal asker.service)

-- what the reply gives, where it gives anything
abbrev pub given_json : List (List ℕ) → List ℕ
given_json [] = []
given_json (argument ∷ arguments) = member (codes "given") (texts_json (argument ∷ arguments))

-- what the reply said
unfoldable pub said_json : Said → List ℕ
said_json said =
    member (codes "status") (text_json (status_word said.status))
    ++ member (codes "text") (text_json said.text) ++ given_json said.given

unfoldable pub type_json : List ℕ → List ℕ
type_json word = member (codes "type") (text_json word)

-- what is told of a packet
abbrev pub told_json : Told → List ℕ
told_json (Login asker said) = type_json (codes "login") ++ asker_json asker ++ said_json said
told_json (Command asker arguments line said) =
    type_json (codes "command") ++ asker_json asker
    ++ member (codes "arguments") (texts_json arguments)
    ++ member (codes "line") (optional_json line) ++ said_json said
told_json (Account asker kind task arguments said) =
    type_json (codes "account") ++ asker_json asker
    ++ member (codes "kind") (optional_json (option_map kind_word kind))
    ++ member (codes "task") (text_json task)
    ++ member (codes "arguments") (texts_json arguments) ++ said_json said
told_json (Refused why) =
    type_json (codes "refused") ++ member (codes "why") (text_json (why_word why))

-- ---- lines

-- an object begins with the time, or null where none is told
unfoldable pub begun : Option (List ℕ) → List ℕ
begun time = codes "{\"time\":" ++ optional_json time

-- an object's end, and the line's
unfoldable pub ended : List ℕ
ended = 0x7D ∷ 10 ∷ []

-- the line of a packet
abbrev pub line_of : Event → List ℕ
line_of event =
    begun event.time ++ origin_json event.origin
    ++ member (codes "session") (text_json (session_digits event.session))
    ++ told_json event.told ++ ended

-- who typed a line, where operators share the console: null where he says no name
abbrev pub typist_json : Typist → List ℕ
typist_json Anyone = []
typist_json (Operator name) = member (codes "operator") (optional_json name)

-- how many bytes an answer has, where only the first of them are told
abbrev pub size_json : Option ℕ → List ℕ
size_json None = []
size_json (Some size) = member (codes "answer_bytes") (decimal size)

-- the line of what was typed at the console
abbrev pub typed_line : Typed → List ℕ
typed_line typed =
    begun (Some typed.time) ++ typist_json typed.typist
    ++ member (codes "console") (text_json typed.console)
    ++ size_json typed.answer_bytes
    ++ member (codes "answer") (texts_json typed.answer) ++ ended

-- the line of connections that were refused, and so have no session
abbrev pub turned_away_line : TurnedAway → List ℕ
turned_away_line turned =
    begun (Some turned.time) ++ origin_json turned.origin ++ type_json (codes "refused")
    ++ member (codes "why") (text_json (turned_away_word turned.why))
    ++ member (codes "count") (decimal turned.count) ++ ended
