-- How many sessions of some packets are open.
use Rattle.std.proofs.Common.{◌≡◌, ◌≢◌, ℕ, ◌+◌, Bool, true, false, cond, List, [], ◌∷◌, refl, sym, ap, subst, arith}
use Rattle.std.specs.Prelude.{◌==◌, ◌||◌, count_by}
use Rattle.std.proofs.lemmas.Bool.{eqb-true, eq-eqb, ne_eqb}
use Rattle.std.proofs.lemmas.List.Sums.{sum_by-cons}
use Rattle.tac_conn.specs.declared.packet.Packet.{Packet}
use Rattle.tac_conn.specs.History.{is_open, has_session, session_ids, open_count, trail_of, open_sessions}

-- one for a session that has a trail
abbrev pub weight : (ℕ → List Packet) → ℕ → ℕ
weight trail id = cond (is_open (trail id)) 1 0

counted : (trail : ℕ → List Packet) (b : Bool) (id : ℕ) (ids : List ℕ) → count_by (λ id. is_open (trail id)) (cond b ids (id ∷ ids)) ≡ cond b 0 (weight trail id) + count_by (λ id. is_open (trail id)) ids
counted trail true id ids = omega arith
counted trail false id ids = sum_by-cons (λ id. weight trail id) id ids

open_count-cons : (trail : ℕ → List Packet) (packet : Packet) (earlier : List Packet)
    → open_count trail (packet ∷ earlier) ≡ cond (has_session packet.header.session earlier) 0 (weight trail packet.header.session) + open_count trail earlier
open_count-cons trail packet earlier = counted trail (has_session packet.header.session earlier) packet.header.session (session_ids earlier)

step_same : (b : Bool) (cu ct pu pt : ℕ) → cu + cond b pt 0 ≡ ct + cond b pu 0 → (cond b 0 pu + cu) + pt ≡ (cond b 0 pt + ct) + pu
step_same true cu ct pu pt e = omega arith
step_same false cu ct pu pt e = omega arith

step_other : (w cu ct p q : ℕ) → cu + p ≡ ct + q → (w + cu) + p ≡ (w + ct) + q
step_other w cu ct p q e = omega arith

module _ (t u : ℕ → List Packet) (s : ℕ) (same : (id : ℕ) → id ≢ s → t id ≡ u id) where
  change_head : (b : Bool) (x : ℕ) (earlier : List Packet) (cu ct : ℕ) → (x == s) ≡ b → cu + cond (has_session s earlier) (weight t s) 0 ≡ ct + cond (has_session s earlier) (weight u s) 0
      → (cond (has_session x earlier) 0 (weight u x) + cu) + cond (b || has_session s earlier) (weight t s) 0 ≡ (cond (has_session x earlier) 0 (weight t x) + ct) + cond (b || has_session s earlier) (weight u s) 0
  change_head true x earlier cu ct e h =
      let k : s ≡ x = sym (eqb-true x s e) in
      let P : ℕ → Type 0 = λ y. (cond (has_session y earlier) 0 (weight u y) + cu) + weight t s ≡ (cond (has_session y earlier) 0 (weight t y) + ct) + weight u s in
      subst P k (step_same (has_session s earlier) cu ct (weight u s) (weight t s) h)
  change_head false x earlier cu ct e h =
      let far : x ≢ s = λ k. absurd (differs k) in
      let w : t x ≡ u x = same x far in
      let P : List Packet → Type 0 = λ l. (cond (has_session x earlier) 0 (cond (is_open l) 1 0) + cu) + cond (has_session s earlier) (weight t s) 0 ≡ (cond (has_session x earlier) 0 (weight t x) + ct) + cond (has_session s earlier) (weight u s) 0 in
      subst P w (step_other (cond (has_session x earlier) 0 (weight t x)) cu ct _ _ h)
    where
      differs : x ≡ s → ⊥
      differs k = let t1 : (x == s) ≡ true = eq-eqb x s k in absurd cc

  -- of two ways to give trails that differ at one session alone
  pub count_change : (packets : List Packet) → open_count u packets + cond (has_session s packets) (weight t s) 0 ≡ open_count t packets + cond (has_session s packets) (weight u s) 0
  count_change [] = omega arith
  count_change (packet ∷ earlier) =
      rw (open_count-cons u packet earlier, open_count-cons t packet earlier)
      (change_head (packet.header.session == s) packet.header.session earlier (open_count u earlier) (open_count t earlier) refl (count_change earlier))

no_trail : (b : Bool) (l : List Packet) (m : List Packet) (c : Bool) → (b || c) ≡ false → (c ≡ false → m ≡ []) → cond b l m ≡ []
no_trail true l m c e h = absurd cc
no_trail false l m c e h = h e

-- a session of which no packet came has no trail
pub trail_of-absent : (s : ℕ) (packets : List Packet) → has_session s packets ≡ false → trail_of packets s ≡ []
unfolding trail_of
trail_of-absent s [] e = refl
trail_of-absent s (packet ∷ earlier) e = no_trail (packet.header.session == s) _ (trail_of earlier s) (has_session s earlier) e (trail_of-absent s earlier)

-- a packet leaves the trails of other sessions as they are
pub trail_of-other : (packet : Packet) (earlier : List Packet) (id : ℕ) → id ≢ packet.header.session → trail_of earlier id ≡ trail_of (packet ∷ earlier) id
unfolding trail_of
trail_of-other packet earlier id far =
    let other : packet.header.session ≢ id = λ k. far (sym k) in
    rw (ne_eqb packet.header.session id other) refl

join_counts : (h : Bool) (cu ct pu pt : ℕ) → cu + cond h pt 0 ≡ ct + cond h pu 0 → (h ≡ false → pt ≡ 0) → (cond h 0 pu + cu) + pt ≡ ct + pu
join_counts true cu ct pu pt e z = omega arith
join_counts false cu ct pu pt e z = let k : pt ≡ 0 = z refl in omega arith

-- a packet opens, or ends, at most its own session
pub open_sessions-step : (packet : Packet) (earlier : List Packet) → let s = packet.header.session in
    open_sessions (packet ∷ earlier) + weight (trail_of earlier) s ≡ open_sessions earlier + weight (trail_of (packet ∷ earlier)) s
open_sessions-step packet earlier =
    let s = packet.header.session in
    rw (open_count-cons (trail_of (packet ∷ earlier)) packet earlier)
    (join_counts (has_session s earlier) (open_count (trail_of (packet ∷ earlier)) earlier) (open_count (trail_of earlier) earlier) (weight (trail_of (packet ∷ earlier)) s) (weight (trail_of earlier) s)
    (count_change (trail_of earlier) (trail_of (packet ∷ earlier)) s (trail_of-other packet earlier) earlier)
    (λ h. ap (λ (l : List Packet). cond (is_open l) 1 0) (trail_of-absent s earlier h)))
