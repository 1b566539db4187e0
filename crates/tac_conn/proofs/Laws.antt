-- Laws of the outcomes of packets, whichever came before.
use Rattle.std.proofs.Common.{◌≡◌, ℕ, ◌+◌, ◌≤◌, Bool, true, false, cond, List, [], ◌∷◌, Option, None, Some, refl, sym, ap, subst, ◌∙◌, arith, inl, inr}
use Rattle.std.specs.Prelude.{IfSome, not}
use Rattle.std.proofs.lemmas.Bool.{cases_lt}
use Rattle.tac_conn.specs.declared.ask.Answer.{Answer}
use Rattle.tac_conn.specs.declared.ask.Slot.{Slot}
use Rattle.tac_conn.specs.declared.conn.Conn.{Conn}
use Rattle.tac_conn.specs.declared.outcome.Outcome.{Outcome}
use Rattle.tac_conn.specs.declared.outcome.Outcome.TheVariants.{Question, Reply, Asks, Silent, Close}
use Rattle.tac_conn.specs.declared.packet.Packet.{Packet}
use Rattle.tac_conn.specs.declared.session.Session.{Session}
use Rattle.tac_conn.specs.Reply.{IsReplyTo, answer_body}
use Rattle.tac_conn.specs.Judging.{leaves_open, closes, judged, reply_in, reply_of}
use Rattle.tac_conn.specs.History.{is_single, is_open, session_of, trail_of, open_session, open_sessions, judged_after, is_closed, outcome}
use Rattle.tac_conn.specs.Standing.{step_of, slot_in, pending_of, GrantsNothing, Lists, IsLast, Stands}
use Rattle.tac_conn.proofs.CountFacts.{weight, open_sessions-step}
use Rattle.tac_conn.proofs.JudgedFacts.{judged_grants_nothing, judged_replies_to, opens_alone}
use Rattle.tac_conn.proofs.StandingFacts.{trail_of-own}

-- what holds of a silent close, and of whatever outcome a packet is judged to have, holds of its
-- outcome
module _ (packet : Packet) (P : Outcome → Type 0) (closed : P Close) (each : (single : Bool) (count : ℕ) (known : Option Session) → P (judged single count known packet)) where
  by_test : (b : Bool) (said : Outcome) → P said → P (cond b Close said)
  by_test true said h = closed
  by_test false said h = h

  always : (earlier : List Packet) → P (outcome earlier packet)
  unfolding outcome judged_after
  always earlier = by_test (is_closed earlier) (judged_after earlier packet) (each (is_single (packet ∷ earlier)) (open_sessions earlier) (open_session earlier packet.header.session))

-- nothing is granted unless the desk is asked
pub outcome_grants_nothing : (earlier : List Packet) (packet : Packet) → GrantsNothing (outcome earlier packet)
outcome_grants_nothing earlier packet = always packet GrantsNothing tt (λ single count known. judged_grants_nothing single count known packet) earlier

-- each reply is one to its packet
pub outcome_replies_to : (packet : Packet) (earlier : List Packet) (answer : Answer) → IfSome (reply_of (outcome earlier packet) answer) (IsReplyTo packet.header)
outcome_replies_to packet earlier answer =
    always packet (λ o. IfSome (reply_of o answer) (IsReplyTo packet.header)) tt (λ single count known. judged_replies_to answer single count known packet) earlier

-- ---- one open session

step_alone : (old new was now : ℕ) → new + was ≡ old + now → old ≤ 1 → was ≤ 1 → now ≤ 1 → (was ≡ 0 → now ≡ 1 → old ≡ 0) → new ≤ 1
step_alone old new was now e o w n h = elim (cases_lt was 1) [
  | inl none ↦ elim (cases_lt now 1) [
    | inl nothing ↦ omega arith
    | inr opened ↦ let first : old ≡ 0 = h (omega arith) (omega arith) in omega arith
  ]
  | inr some ↦ omega arith
]

is_single_before : (packet : Packet) (earlier : List Packet) → is_single (packet ∷ earlier) ≡ false → is_single earlier ≡ false
is_single_before packet [] e = refl
is_single_before packet (before ∷ earlier) e = e

at_most_one : (trail : List Packet) → cond {A = ℕ} (is_open trail) 1 0 ≤ 1
at_most_one [] = omega arith
at_most_one (packet ∷ earlier) = omega arith

no_trail : (trail : List Packet) → cond {A = ℕ} (is_open trail) 1 0 ≡ 0 → trail ≡ []
no_trail [] e = refl
no_trail (packet ∷ earlier) e = absurd (omega arith)

stays_open : (b : Bool) (trail : List Packet) → cond {A = ℕ} (is_open (cond b trail [])) 1 0 ≡ 1 → b ≡ true
stays_open true trail e = refl
stays_open false trail e = absurd (omega arith)

-- a connection that isn't single has at most one open session
pub open_sessions-alone : (packets : List Packet) → is_single packets ≡ false → open_sessions packets ≤ 1
unfolding judged_after
open_sessions-alone [] e = omega arith
open_sessions-alone (packet ∷ earlier) e =
    let id = packet.header.session in
    let before = open_sessions-alone earlier (is_single_before packet earlier e) in
    let opens_first : weight (trail_of earlier) id ≡ 0 → weight (trail_of (packet ∷ earlier)) id ≡ 1 → open_sessions earlier ≡ 0 = λ none one.
    let after = ap (λ (l : List Packet). cond {A = ℕ} (is_open l) 1 0) (sym (trail_of-own packet earlier)) ∙ one in
    let opened : leaves_open (judged_after earlier packet) ≡ true = stays_open (leaves_open (judged_after earlier packet)) (packet ∷ trail_of earlier id) after in
    let first = no_trail (trail_of earlier id) none in
    opens_alone (open_sessions earlier) packet (rw (← e, ← ap (session_of id) first) opened) in
    step_alone (open_sessions earlier) (open_sessions (packet ∷ earlier)) (weight (trail_of earlier) id) (weight (trail_of (packet ∷ earlier)) id) (open_sessions-step packet earlier) before
    (at_most_one (trail_of earlier id)) (at_most_one (trail_of (packet ∷ earlier) id)) opens_first

-- ---- an answer that is waited for

pub awaited : (said : Outcome) (slot : Slot) (answer : Answer) → slot_in (step_of said) ≡ Some slot → (reply_of said answer ≡ Some (reply_in slot (answer_body answer))) × (closes said ≡ not slot.single)
awaited (Question reply session) slot answer e = absurd cc
awaited (Reply reply ends) slot answer e = absurd cc
awaited (Asks ask other) slot answer e =
    let same : other ≡ slot = cc in
    (ap (λ (s : Slot). Some (reply_in s (answer_body answer))) same, ap (λ (s : Slot). not s.single) same)
awaited Silent slot answer e = absurd cc
awaited Close slot answer e = absurd cc

-- what waits for an answer is what the last packet asks
pub last_asks : (conn : Conn) (packet : Packet) (earlier : List Packet) (slot : Slot) → Stands conn (packet ∷ earlier) → pending_of conn ≡ Some slot → slot_in (step_of (outcome earlier packet)) ≡ Some slot
last_asks conn packet earlier slot stands waits = subst (λ (k : Option Slot). IsLast k (packet ∷ earlier)) waits stands.pending

-- once the answer is given nothing waits
pub stands_answered : (old new : Conn) (packets : List Packet) → new.closed ≡ old.closed → new.single ≡ old.single → new.sessions ≡ old.sessions → new.pending ≡ None → Stands old packets → Stands new packets
stands_answered old new packets c s l p stands = record {
  closed = c ∙ stands.closed;
  single = λ h. s ∙ stands.single (sym c ∙ h);
  sessions = λ h. subst (λ (sessions : List Session). Lists sessions packets) (sym l) (stands.sessions (sym c ∙ h));
  pending = subst (λ (k : Option Slot). IsLast k packets) (sym p) tt;
}
