-- What is kept still represents the packets that came.
use Rattle.std.proofs.Common.{◌≡◌, ◌≢◌, ℕ, ◌+◌, ◌<◌, ◌≤◌, Bool, true, false, cond, List, [], ◌∷◌, length, Option, None, Some, refl, sym, ap, subst, ◌∙◌, arith}
use Rattle.std.specs.Prelude.{◌==◌, is_some, nat_le}
use Rattle.std.proofs.lemmas.Bool.{eqb-true, eqb-false, eq-eqb, leb-false}
use Rattle.tac_conn.specs.declared.ask.Slot.{Slot}
use Rattle.tac_conn.specs.declared.conn.Conn.{Conn}
use Rattle.tac_conn.specs.declared.outcome.Outcome.{Outcome}
use Rattle.tac_conn.specs.declared.outcome.Outcome.TheVariants.{Question, Reply, Asks, Silent, Close}
use Rattle.tac_conn.specs.declared.packet.Packet.{Packet}
use Rattle.tac_conn.specs.declared.session.Session.{Session}
use Rattle.tac_conn.specs.Judging.{leaves_open, judged, is_read, max_sessions}
use Rattle.tac_conn.specs.History.{is_single, is_open, session_of, trail_of, open_session, open_sessions, judged_after, is_closed, outcome, is_read_after}
use Rattle.tac_conn.specs.Sessions.{session_in, settled}
use Rattle.tac_conn.specs.Standing.{session_left, step_of, slot_in, single_with, known_single, outcome_in, is_read_in, conn_after, HasItsSlot, Lists, IsLast, Stands}
use Rattle.tac_conn.proofs.CountFacts.{weight, trail_of-other, open_sessions-step}
use Rattle.tac_conn.proofs.JudgedFacts.{judged_open_is_read, judged_has_its_slot, full_opens_none, session_left-judged}
use Rattle.tac_conn.proofs.TableFacts.{one_if, HasId, settled_other, settled_same, settled_once, length-settled}

-- a packet that leaves its session open is read
pub open_is_read : (conn : Conn) (packet : Packet) (said : Outcome) → said ≡ outcome_in conn packet → leaves_open said ≡ true → is_read_in conn packet ≡ true
unfolding outcome_in is_read_in
open_is_read conn packet said e h =
    judged_open_is_read (single_with conn.single packet.header) (length conn.sessions) (session_in conn.sessions packet.header.session) packet
    (subst (λ (o : Outcome). leaves_open o ≡ true) e h)

-- an ask has the slot of its kind
pub outcome_in_has_its_slot : (conn : Conn) (packet : Packet) → HasItsSlot (step_of (outcome_in conn packet))
unfolding outcome_in
outcome_in_has_its_slot conn packet =
    judged_has_its_slot (single_with conn.single packet.header) (length conn.sessions) (session_in conn.sessions packet.header.session) packet

-- ---- no packets

pub stands_new : (conn : Conn) → conn.closed ≡ false → conn.single ≡ None → conn.sessions ≡ [] → conn.pending ≡ None → Stands conn []
unfolding is_closed trail_of
stands_new conn c s t p = record {
  closed = c;
  single = λ h. s;
  sessions = λ h. subst (λ (l : List Session). Lists l []) (sym t) (record { once = tt; each = λ id. refl; count = refl; room = omega arith });
  pending = subst (λ (k : Option Slot). IsLast k []) (sym p) tt;
}

-- ---- one more packet

-- the trail of the packet's own session
pub trail_of-own : (packet : Packet) (earlier : List Packet) → let id = packet.header.session in
    trail_of (packet ∷ earlier) id ≡ cond (leaves_open (judged_after earlier packet)) (packet ∷ trail_of earlier id) []
unfolding trail_of judged_after
trail_of-own packet earlier = rw (eq-eqb packet.header.session packet.header.session refl) refl

single_next : (packet : Packet) (earlier : List Packet) → single_with (known_single earlier) packet.header ≡ is_single (packet ∷ earlier)
single_next packet [] = refl
single_next packet (before ∷ earlier) = refl

has_own_id : (id : ℕ) (trail : List Packet) → HasId id (session_of id trail)
has_own_id id [] = tt
has_own_id id (packet ∷ earlier) = refl

weight_of : (id : ℕ) (trail : List Packet) → one_if (is_some (session_of id trail)) ≡ cond (is_open trail) 1 0
weight_of id [] = refl
weight_of id (packet ∷ earlier) = refl

add_up : (len len' count count' a b : ℕ) → len' + a ≡ len + b → count' + a ≡ count + b → len ≡ count → len' ≡ count'
add_up len len' count count' a b e f g = omega arith

none_left : (said : Outcome) → leaves_open said ≡ false → session_left said ≡ None
none_left (Question reply session) e = absurd cc
none_left (Reply reply ends) e = refl
none_left (Asks ask slot) e = refl
none_left Silent e = refl
none_left Close e = refl

some_is_not_none : (x : Session) → Some x ≡ None → ⊥
some_is_not_none x e = absurd cc

-- there is room for what is kept
room_next : (kept next : Option Session) (len len' : ℕ) → len' + one_if (is_some kept) ≡ len + one_if (is_some next) → len ≤ max_sessions → (kept ≡ None → nat_le max_sessions len ≡ true → next ≡ None) → len' ≤ max_sessions
room_next (Some x) None len len' e r h = omega arith
room_next (Some x) (Some y) len len' e r h = omega arith
room_next None None len len' e r h = omega arith
room_next None (Some y) len len' e r h = by_test (nat_le max_sessions len) refl
  where
    by_test : (b : Bool) → nat_le max_sessions len ≡ b → len' ≤ max_sessions
    by_test true t = absurd (some_is_not_none y (h refl t))
    by_test false t = let few : len < max_sessions = leb-false _ _ t in omega arith

module _ (sessions : List Session) (packet : Packet) (earlier : List Packet) (lists : Lists sessions earlier) where
  abbrev own : ℕ
  own = packet.header.session

  abbrev known : Option Session
  known = open_session earlier own

  abbrev said : Outcome
  said = judged (is_single (packet ∷ earlier)) (open_sessions earlier) known packet

  abbrev next : Option Session
  next = session_left said

  same_outcome : judged_after earlier packet ≡ said
  unfolding judged_after
  same_outcome = refl

  -- what is left of the session is what its packets say
  next_open : next ≡ open_session (packet ∷ earlier) own
  next_open =
      session_left-judged (is_single (packet ∷ earlier)) (open_sessions earlier) own packet refl (trail_of earlier own)
      ∙ ap (session_of own) (ap (λ (o : Outcome). cond (leaves_open o) (packet ∷ trail_of earlier own) []) (sym same_outcome) ∙ sym (trail_of-own packet earlier))

  next_has_id : HasId own next
  next_has_id = subst (HasId own) (sym next_open) (has_own_id own (trail_of (packet ∷ earlier) own))

  none_beside : session_in sessions own ≡ None → nat_le max_sessions (length sessions) ≡ true → next ≡ None
  none_beside e t =
      let absent : None ≡ known = sym e ∙ lists.each own in
      let many : nat_le max_sessions (open_sessions earlier) ≡ true = ap (nat_le max_sessions) (sym lists.count) ∙ t in
      let P : Option Session → Type 0 = λ k. leaves_open (judged (is_single (packet ∷ earlier)) (open_sessions earlier) k packet) ≡ false in
      none_left said (subst P absent (full_opens_none (is_single (packet ∷ earlier)) (open_sessions earlier) packet many))

  each_next : (b : Bool) (id : ℕ) → (id == own) ≡ b → session_in (settled own next sessions) id ≡ open_session (packet ∷ earlier) id
  each_next true id e =
      let P : ℕ → Type 0 = λ i. session_in (settled own next sessions) i ≡ open_session (packet ∷ earlier) i in
      subst P (sym (eqb-true id own e)) (settled_same own next sessions next_has_id lists.once ∙ next_open)
  each_next false id e =
      let far : id ≢ own = eqb-false id own e in
      settled_other own next sessions id next_has_id far ∙ lists.each id ∙ ap (session_of id) (trail_of-other packet earlier id far)

  lists_next : Lists (settled own next sessions) (packet ∷ earlier)
  lists_next =
      let longer = length-settled own next sessions next_has_id in
      let old : one_if (is_some (session_in sessions own)) ≡ weight (trail_of earlier) own = ap (λ (k : Option Session). one_if (is_some k)) (lists.each own) ∙ weight_of own (trail_of earlier own) in
      let new : one_if (is_some next) ≡ weight (trail_of (packet ∷ earlier)) own = ap (λ (k : Option Session). one_if (is_some k)) next_open ∙ weight_of own (trail_of (packet ∷ earlier) own) in
      record {
        once = settled_once own next sessions lists.once;
        each = λ id. each_next (id == own) id refl;
        count = add_up (length sessions) (length (settled own next sessions)) (open_sessions earlier) (open_sessions (packet ∷ earlier)) (weight (trail_of earlier) own) (weight (trail_of (packet ∷ earlier)) own)
            (subst (λ (n : ℕ). length (settled own next sessions) + n ≡ length sessions + weight (trail_of (packet ∷ earlier)) own) old
            (subst (λ (n : ℕ). length (settled own next sessions) + one_if (is_some (session_in sessions own)) ≡ length sessions + n) new longer))
            (open_sessions-step packet earlier) lists.count;
        room = room_next (session_in sessions own) next (length sessions) (length (settled own next sessions)) longer lists.room none_beside;
      }

module _ (conn : Conn) (packet : Packet) (earlier : List Packet) (stands : Stands conn earlier) (alive : conn.closed ≡ false) where
  pub not_closed : is_closed earlier ≡ false
  not_closed = sym stands.closed ∙ alive

  pub same_single : single_with conn.single packet.header ≡ is_single (packet ∷ earlier)
  same_single = ap (λ (k : Option Bool). single_with k packet.header) (stands.single alive) ∙ single_next packet earlier

  -- the outcome of a packet by what is kept is its outcome by the packets
  outcome_in-judged_after : outcome_in conn packet ≡ judged_after earlier packet
  unfolding outcome_in judged_after
  outcome_in-judged_after =
      let lists = stands.sessions alive in
      ap (λ (b : Bool). judged b (length conn.sessions) (session_in conn.sessions packet.header.session) packet) same_single
      ∙ ap (λ (n : ℕ). judged (is_single (packet ∷ earlier)) n (session_in conn.sessions packet.header.session) packet) lists.count
      ∙ ap (λ (k : Option Session). judged (is_single (packet ∷ earlier)) (open_sessions earlier) k packet) (lists.each packet.header.session)

  judged_after-outcome : judged_after earlier packet ≡ outcome earlier packet
  unfolding outcome
  judged_after-outcome = rw not_closed refl

  pub outcome_in-outcome : outcome_in conn packet ≡ outcome earlier packet
  outcome_in-outcome = outcome_in-judged_after ∙ judged_after-outcome

  -- a packet is read by what is kept where it is by the packets
  pub is_read_in-after : is_read_in conn packet ≡ true → is_read_after earlier packet ≡ true
  unfolding is_read_in is_read_after
  is_read_in-after h =
      let lists = stands.sessions alive in
      let by_packets : is_read_in conn packet ≡ is_read (is_single (packet ∷ earlier)) (open_sessions earlier) (open_session earlier packet.header.session) packet =
      ap (λ (b : Bool). is_read b (length conn.sessions) (session_in conn.sessions packet.header.session) packet) same_single
      ∙ ap (λ (n : ℕ). is_read (is_single (packet ∷ earlier)) n (session_in conn.sessions packet.header.session) packet) lists.count
      ∙ ap (λ (k : Option Session). is_read (is_single (packet ∷ earlier)) (open_sessions earlier) k packet) (lists.each packet.header.session) in
      rw not_closed (sym by_packets ∙ h)

  last_slot : (waits : Option Slot) → slot_in (step_of (outcome earlier packet)) ≡ waits → IsLast waits (packet ∷ earlier)
  last_slot None e = tt
  last_slot (Some slot) e = e

  stands_by : Stands (conn_after conn packet.header (judged_after earlier packet)) (packet ∷ earlier)
  unfolding is_closed
  stands_by = record {
    closed = rw not_closed refl;
    single = λ h. ap (λ (b : Bool). Some b) same_single;
    sessions = λ h. subst (λ (o : Outcome). Lists (settled packet.header.session (session_left o) conn.sessions) (packet ∷ earlier))
        (sym (same_outcome conn.sessions packet earlier (stands.sessions alive))) (lists_next conn.sessions packet earlier (stands.sessions alive));
    pending = last_slot _ (ap (λ (o : Outcome). slot_in (step_of o)) (sym judged_after-outcome));
  }

  -- what is kept after a packet represents the packets with that one
  pub stands_next : Stands (conn_after conn packet.header (outcome_in conn packet)) (packet ∷ earlier)
  stands_next = subst (λ (o : Outcome). Stands (conn_after conn packet.header o) (packet ∷ earlier)) (sym outcome_in-judged_after) stands_by

-- a closed connection says nothing, and stays closed
pub closed_outcome : (conn : Conn) (packet : Packet) (earlier : List Packet) → Stands conn earlier → conn.closed ≡ true → outcome earlier packet ≡ Close
unfolding outcome
closed_outcome conn packet earlier stands shut = let closed : is_closed earlier ≡ true = sym stands.closed ∙ shut in rw closed refl

pub stands_closed : (conn : Conn) (packet : Packet) (earlier : List Packet) → Stands conn earlier → conn.closed ≡ true → conn.pending ≡ None → Stands conn (packet ∷ earlier)
unfolding is_closed
stands_closed conn packet earlier stands shut free =
    let closed : is_closed earlier ≡ true = sym stands.closed ∙ shut in
    record {
      closed = rw closed shut;
      single = λ h. absurd (clash conn.closed shut h);
      sessions = λ h. absurd (clash conn.closed shut h);
      pending = subst (λ (k : Option Slot). IsLast k (packet ∷ earlier)) (sym free) tt;
    }
  where
    clash : (b : Bool) → b ≡ true → b ≡ false → ⊥
    clash b h g = absurd cc
