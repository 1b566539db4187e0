-- Worked cases: the outcomes of packets.
use Rattle.std.proofs.Common.{◌≡◌, ℕ, ◌+◌, Bool, true, false, List, [], ◌∷◌, ◌++◌, length, Option, None, Some, refl}
use Rattle.std.specs.Prelude.{codes}
use Rattle.std.specs.Option.{option_map}
use Rattle.pol_names.specs.declared.decision.By.TheVariants as by
use Rattle.tac_request.specs.declared.record.AcctKind.TheVariants.{Update}
use Rattle.tac_conn.specs.declared.ask.AskKind.TheVariants.{Authentication, Authorisation, Accounting}
use Rattle.tac_conn.specs.declared.ask.Slot.{Slot}
use Rattle.tac_conn.specs.declared.ask.Answer.TheVariants.{Pass, Denied, Permitted, Stored}
use Rattle.tac_conn.specs.declared.ask.Ask.TheVariants.{Authenticate, Account}
use Rattle.tac_conn.specs.declared.ask.Proof.TheVariants.{Plain}
use Rattle.tac_conn.specs.declared.packet.Packet.{Packet}
use Rattle.tac_conn.specs.declared.outcome.Outcome.TheVariants.{Asks}
use Rattle.tac_conn.specs.Reply.{packet_of, answer_body}
use Rattle.tac_conn.specs.Judging.{judged, closes, reply_in, reply_of}
use Rattle.tac_conn.specs.History.{outcome, judged_after, is_closed, trail_of, open_sessions}

-- what is sent for a packet that came after these, and whether the connection closes
abbrev says : List Packet → Packet → Option Packet × Bool
says earlier packet = (option_map packet_of (reply_of (outcome earlier packet) Pass), closes (outcome earlier packet))

-- a packet of authentication, minor version 0 or 1
abbrev authen_packet : ℕ → ℕ → ℕ → ℕ → List ℕ → Packet
authen_packet minor seq flags session body =
    record { header = record { version = 0xc0 + minor; kind = record { 0 = 1 }; seq = seq; flags = flags; session = session; length = length body }; body = body }

-- an ASCII login without user
abbrev start : ℕ → ℕ → Packet
start flags session = authen_packet 0 1 flags session (1 ∷ 1 ∷ 1 ∷ 1 ∷ 0 ∷ 0 ∷ 0 ∷ 0 ∷ [])

-- a CONTINUE with this text, shorter than 256 bytes
abbrev continue : ℕ → ℕ → ℕ → List ℕ → Packet
continue seq flags session text = authen_packet 0 seq 0 session (0 ∷ length text ∷ 0 ∷ 0 ∷ flags ∷ text)

-- a reply without NOECHO, or with it
abbrev replied : ℕ → ℕ → ℕ → ℕ → ℕ → List ℕ → Packet
replied seq flags session status noecho text = authen_packet 0 seq flags session (status ∷ noecho ∷ 0 ∷ length text ∷ 0 ∷ 0 ∷ text)

-- a START without a user gives GETUSER
asks_name : says [] (start 0 7) ≡ (Some (replied 2 0 7 4 0 (codes "Username: ")), false)
unfolding outcome judged_after judged is_closed trail_of
asks_name = refl

-- then a name gives GETPASS, with NOECHO
asks_secret : says (start 0 7 ∷ []) (continue 3 0 7 (codes "bob")) ≡ (Some (replied 4 0 7 5 1 (codes "Password: ")), false)
unfolding outcome judged_after judged is_closed trail_of
asks_secret = refl

-- then what is typed is asked of the policy, and the connection closes with the answer
asks_policy : outcome (continue 3 0 7 (codes "bob") ∷ start 0 7 ∷ []) (continue 5 0 7 (codes "pw"))
    ≡ Asks (Authenticate (codes "bob") (record { 0 = 1 }) (Plain (codes "pw")))
    (record { header = record { version = 0xc0; kind = record { 0 = 1 }; seq = 6; flags = 0; session = 7; length = 0 }; kind = Authentication; single = false })
unfolding outcome judged_after judged is_closed trail_of
asks_policy = refl

-- a CONTINUE with another seq_no closes
wrong_seq : says (start 0 7 ∷ []) (continue 5 0 7 (codes "bob")) ≡ (None, true)
unfolding outcome judged_after judged is_closed trail_of
wrong_seq = refl

-- so does a second session on a connection that isn't single
second_session : says (start 0 7 ∷ []) (start 0 8) ≡ (None, true)
unfolding outcome judged_after judged is_closed trail_of
second_session = refl

-- on a single one it is opened, and both are
two_sessions : open_sessions (start 0 8 ∷ start 4 7 ∷ []) ≡ 2
unfolding judged trail_of
two_sessions = refl

-- the client gives up: a single connection stays open, another closes
gives_up_single : says (start 4 7 ∷ []) (continue 3 3 7 []) ≡ (None, false)
unfolding outcome judged_after judged is_closed trail_of
gives_up_single = refl

gives_up : says (start 0 7 ∷ []) (continue 3 1 7 []) ≡ (None, true)
unfolding outcome judged_after judged is_closed trail_of
gives_up = refl

-- after its end a session_id is used again
used_again : says (continue 3 1 7 [] ∷ start 4 7 ∷ []) (start 0 7) ≡ (Some (replied 2 4 7 4 0 (codes "Username: ")), false)
unfolding outcome judged_after judged is_closed trail_of
used_again = refl

-- CHAP with 16 bytes of data fails
short_chap : says [] (authen_packet 1 1 4 9 ((1 ∷ 1 ∷ 3 ∷ 3 ∷ 1 ∷ 0 ∷ 0 ∷ 16 ∷ 98 ∷ []) ++ codes "0123456789abcdef"))
    ≡ (Some (record { header = record { version = 0xc1; kind = record { 0 = 1 }; seq = 2; flags = 4; session = 9; length = 27 }; body = (2 ∷ 0 ∷ 0 ∷ 21 ∷ 0 ∷ 0 ∷ []) ++ codes "Authentication failed" }), false)
unfolding outcome judged_after judged is_closed trail_of
short_chap = refl

-- an invalid body closes a single connection too
bad_start : says [] (authen_packet 0 1 4 9 (1 ∷ [])) ≡ (Some (replied 2 4 9 7 0 (codes "bad body")), true)
unfolding outcome judged_after judged is_closed trail_of
bad_start = refl

-- a type that isn't served
other_type : (body : List ℕ) → says [] (record { header = record { version = 0xc0; kind = record { 0 = 4 }; seq = 1; flags = 4; session = 9; length = length body }; body = body })
    ≡ (Some (record { header = record { version = 0xc0; kind = record { 0 = 4 }; seq = 2; flags = 4; session = 9; length = 0 }; body = [] }), true)
unfolding outcome judged_after judged is_closed trail_of
other_type body = refl

-- with seq_no 255 there is no reply
last_seq : (body : List ℕ) → says [] (record { header = record { version = 0xc0; kind = record { 0 = 4 }; seq = 255; flags = 4; session = 9; length = length body }; body = body }) ≡ (None, true)
unfolding outcome judged_after judged is_closed trail_of
last_seq body = refl

-- an accounting request with this first byte, of bob at tty0, with the argument task_id=7
abbrev acct_request : ℕ → Packet
acct_request flags =
    let body = (flags ∷ 6 ∷ 1 ∷ 1 ∷ 1 ∷ 3 ∷ 4 ∷ 0 ∷ 1 ∷ 9 ∷ []) ++ codes "bobtty0task_id=7" in
    record { header = record { version = 0xc0; kind = record { 0 = 3 }; seq = 1; flags = 0; session = 1; length = 26 }; body = body }

abbrev acct_slot : Slot
acct_slot = record { header = record { version = 0xc0; kind = record { 0 = 3 }; seq = 2; flags = 0; session = 1; length = 0 }; kind = Accounting; single = false }

-- an update is to be stored
asks_to_store : outcome [] (acct_request 0x0a) ≡ Asks (Account (record { user = codes "bob"; kind = Update; task = codes "7"; elapsed = 0; line = None })) acct_slot
unfolding outcome judged_after judged is_closed trail_of
asks_to_store = refl

-- START and STOP together are no flags of a record
bad_flags : says [] (acct_request 0x06)
    ≡ (Some (record { header = record { version = 0xc0; kind = record { 0 = 3 }; seq = 2; flags = 0; session = 1; length = 14 }; body = (0 ∷ 9 ∷ 0 ∷ 0 ∷ 2 ∷ []) ++ codes "bad flags" }), true)
unfolding outcome judged_after judged is_closed trail_of
bad_flags = refl

-- a packet of accounting closes an open session, and so does one beside it
acct_of_open : says (start 4 1 ∷ []) (acct_request 0x0a) ≡ (None, true)
unfolding outcome judged_after judged is_closed trail_of
acct_of_open = refl

acct_beside_open : says (start 0 7 ∷ []) (acct_request 0x0a) ≡ (None, true)
unfolding outcome judged_after judged is_closed trail_of
acct_beside_open = refl

stored : packet_of (reply_in acct_slot (answer_body Stored)) ≡ record { header = record { version = 0xc0; kind = record { 0 = 3 }; seq = 2; flags = 0; session = 1; length = 5 }; body = 0 ∷ 0 ∷ 0 ∷ 0 ∷ 1 ∷ [] }
stored = refl

-- the answer to a request, in its slot
abbrev request_slot : Slot
request_slot = record { header = record { version = 0xc0; kind = record { 0 = 2 }; seq = 2; flags = 0; session = 9; length = 0 }; kind = Authorisation; single = false }

denied : packet_of (reply_in request_slot (answer_body (Denied by.Default)))
    ≡ record { header = record { version = 0xc0; kind = record { 0 = 2 }; seq = 2; flags = 0; session = 9; length = 23 }; body = (0x10 ∷ 0 ∷ 0 ∷ 17 ∷ 0 ∷ 0 ∷ []) ++ codes "denied by default" }
denied = refl

permitted : packet_of (reply_in request_slot (answer_body (Permitted None))) ≡ record { header = record { version = 0xc0; kind = record { 0 = 2 }; seq = 2; flags = 0; session = 9; length = 6 }; body = 1 ∷ 0 ∷ 0 ∷ 0 ∷ 0 ∷ 0 ∷ [] }
permitted = refl
