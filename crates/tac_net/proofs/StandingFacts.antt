-- A worker goes on to stand, whatever it does with its connections.
use Rattle.std.proofs.Common.{◌≡◌, ◌+◌, ℕ, List, Option, ap, ◌∙◌, arith}
use Rattle.tac_wire.specs.declared.door.Door.{Door}
use Rattle.tac_audit.specs.declared.notice.Notice.{Notice}
use Rattle.tac_hall.specs.Seat.{Seated}
use Rattle.tac_journal.specs.Log.{Keeping}
use Rattle.tac_worker.specs.Worked.{Exchange}
use Rattle.tac_worker.specs.declared.line.Line.{Line}
use Rattle.tac_worker.specs.declared.stop.Stop.{Stop}
use Rattle.tac_worker.specs.Board.{Board, at, came, Adds, removed_at, ServesAt}
use Rattle.tac_net.specs.Connections.{Begins}
use Rattle.tac_net.specs.Standing.{Stands}
use Rattle.tac_net.specs.declared.callers.Callers.{Callers}
use Rattle.tac_net.proofs.FitFacts.{fits_added, fits_served, fits_removed, added_keeps, served_keeps, removed_keeps}

module _ {V S : Type 0} (takes refuses : V → Notice → V → Type 0) (callers : Callers) (log : Keeping) (connections : ℕ) where
  -- one is let go
  pub stands_removed : (left k : ℕ) (slot : Option (Line Seated V S)) (was now : Board Seated V S) → slot ≡ at was.lines k → now ≡ removed_at slot k was
      → Stands takes refuses callers log connections was left → Stands takes refuses callers log connections now left
  stands_removed left k slot was now there is s = record {
    each = fits_removed (Begins takes refuses callers log) slot k was now there is s.each;
    count = ap (λ n. n + left) (removed_keeps slot k was now is).1 ∙ s.count;
  }

  -- one is served
  pub stands_served : (makes : Seated → Exchange → Seated → Type 0) (rests : Seated → Seated → Type 0) (remaining contents : S → Option (List ℕ)) (left turns k : ℕ) (stop : Stop) (was now : Board Seated V S)
      → ServesAt makes rests remaining contents (at was.lines k) turns k stop was now → Stands takes refuses callers log connections was left → Stands takes refuses callers log connections now left
  stands_served makes rests remaining contents left turns k stop was now served s = record {
    each = fits_served (Begins takes refuses callers log) makes rests remaining contents turns k stop was now served s.each;
    count = ap (λ n. n + left) (served_keeps makes rests remaining contents (at was.lines k) turns k stop was now served).1 ∙ s.count;
  }

  -- one is added
  pub stands_added : (left more k : ℕ) (with : Door) (witness : V) (socket : S) (was now : Board Seated V S) → Adds (came with witness socket was) k was now → Begins takes refuses callers log with witness
      → left ≡ more + 1 → Stands takes refuses callers log connections was left → Stands takes refuses callers log connections now more
  stands_added left more k with witness socket was now added begins one s = record {
    each = fits_added (Begins takes refuses callers log) with witness socket k was now added begins s.each;
    count = omega (arith, (added_keeps (came with witness socket was) k was now added).1, s.count, one);
  }
