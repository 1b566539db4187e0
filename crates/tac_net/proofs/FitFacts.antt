-- What is true of each connection by the door of its device and its witness at first, whatever is
-- done on a board.
use Rattle.std.proofs.Common.{◌≡◌, ◌+◌, ℕ, suc, ◌<◌, List, [], ◌∷◌, map, length, Option, Some, None, slice_index_or, refl, sym, ap, subst, arith}
use Rattle.tac_wire.specs.declared.door.Door.{Door}
use Rattle.tac_hall.specs.Seat.{Seated}
use Rattle.tac_worker.specs.Worked.{Exchange}
use Rattle.tac_worker.specs.declared.line.Line.{Line}
use Rattle.tac_worker.specs.declared.stop.Stop.{Stop}
use Rattle.tac_worker.specs.Board.{Board, at, came, AreAll, Adds, removed_at, ServesAt}
use Rattle.tac_worker.proofs.BoardFacts.{all_added, all_removed, all_served}
use Rattle.tac_net.specs.Connections.{HaveAllServed}

module _ {C V S : Type 0} (P : Door → V → Type 0) where
  abbrev pub Fits : Board C V S → Type 0
  Fits board = AreAll (λ (line : Line C V S). P line.link.door line.link.first) board

  pub fits_added : (door : Door) (witness : V) (socket : S) (k : ℕ) (was now : Board C V S) → Adds (came door witness socket was) k was now → P door witness → Fits was → Fits now
  fits_added door witness socket k was now added mine h = all_added (λ (line : Line C V S). P line.link.door line.link.first) (came door witness socket was) k was now added mine h

  pub fits_served : (makes : C → Exchange → C → Type 0) (rests : C → C → Type 0) (remaining contents : S → Option (List ℕ)) (turns k : ℕ) (stop : Stop) (was now : Board C V S)
      → ServesAt makes rests remaining contents (at was.lines k) turns k stop was now → Fits was → Fits now
  fits_served makes rests remaining contents turns k stop was now s h =
      all_served (λ (line : Line C V S). P line.link.door line.link.first) makes rests remaining contents
      (λ line then stays mine. subst (λ (door : Door). P door then.link.first) (sym stays.door) (subst (λ (first : V). P line.link.door first) (sym stays.first) mine)) (at was.lines k) turns k stop was now refl s h

  pub fits_removed : (slot : Option (Line C V S)) (k : ℕ) (was now : Board C V S) → slot ≡ at was.lines k → now ≡ removed_at slot k was → Fits was → Fits now
  fits_removed slot k was now there is h = subst Fits (sym is) (all_removed (λ (line : Line C V S). P line.link.door line.link.first) slot k was there h)

-- ---- what else stays

module _ {C V S : Type 0} where
  pub added_keeps : (line : Line C V S) (k : ℕ) (was now : Board C V S) → Adds line k was now → (now.first ≡ was.first) × (now.next ≡ was.next + 1)
  added_keeps line k was now added = (ap (λ (board : Board C V S). board.first) added.rest, ap (λ (board : Board C V S). board.next) added.rest)

  pub removed_keeps : (slot : Option (Line C V S)) (k : ℕ) (was now : Board C V S) → now ≡ removed_at slot k was → (now.first ≡ was.first) × (now.next ≡ was.next)
  removed_keeps (Some line) k was now is = (ap (λ (board : Board C V S). board.first) is, ap (λ (board : Board C V S). board.next) is)
  removed_keeps None k was now is = (ap (λ (board : Board C V S). board.first) is, ap (λ (board : Board C V S). board.next) is)

  module _ (makes : C → Exchange → C → Type 0) (rests : C → C → Type 0) (remaining contents : S → Option (List ℕ)) where
    pub served_keeps : (slot : Option (Line C V S)) (turns k : ℕ) (stop : Stop) (was now : Board C V S) → ServesAt makes rests remaining contents slot turns k stop was now → (now.first ≡ was.first) × (now.next ≡ was.next)
    served_keeps (Some line) turns k stop was now s = (ap (λ (board : Board C V S). board.first) s.rest, ap (λ (board : Board C V S). board.next) s.rest)
    served_keeps None turns k stop was now s = (ap (λ (board : Board C V S). board.first) s.1, ap (λ (board : Board C V S). board.next) s.1)

-- ---- seats side by side

-- what is known of the result at each place is known of all, where each job has a seat
pub each_served_so : {J : Type 0} (seat_of : J → Seated) (serves : Seated → Seated → Type 0) (jobs : List J) (served : List Seated) → length served ≡ length jobs
    → ((i : ℕ) (d : Seated) → i < length jobs → (job : J) × (job ≡ slice_index_or jobs i job) × serves (seat_of job) (slice_index_or served i d)) → HaveAllServed serves (map seat_of jobs) served
each_served_so seat_of serves [] [] same each = tt
each_served_so seat_of serves [] (one ∷ served) same each = absurd (omega (arith, same))
each_served_so seat_of serves (job ∷ jobs) [] same each = absurd (omega (arith, same))
each_served_so {J} seat_of serves (job ∷ jobs) (one ∷ served) same each =
    let first = each 0 one (omega arith) in (
      subst (λ (j : J). serves (seat_of j) one) first.1 first.2,
      each_served_so seat_of serves jobs served (omega (arith, same)) (λ i d h. each (suc i) d (omega (arith, h))),
    )
