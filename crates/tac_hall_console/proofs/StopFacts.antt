-- The Stop after the lines.
use Rattle.std.proofs.Common.{◌≡◌, ℕ, List, [], ◌∷◌, ◌++◌, Option, None, Result}
use Rattle.pol_edit.specs.declared.edit.Edit.{Edit}
use Rattle.tac_audit.specs.Witness.{AreTold}
use Rattle.tac_audit.specs.declared.notice.Typing.{Typing}
use Rattle.tac_hall.specs.Room.{Opening}
use Rattle.tac_hall.specs.Seat.{Seated}
use Rattle.tac_hall.specs.declared.call.Call.TheVariants as calls
use Rattle.tac_hall_console.specs.declared.fault.OperatorFault.{OperatorFault}
use Rattle.tac_hall_console.specs.Operated.{Outcome, CameTo, StopComesTo, Makes, entries_of, rotations_of, IsOperated}
use Rattle.tac_hall_console.specs.Operating.{Scene, Stops, HasListened}
use Rattle.tac_hall_console.proofs.MakesFacts.{makes_then, call_makes, came_makes}

-- what the lines and then the Stop leave of the seat
makes_all : (opening : Opening) (batch : Option (List Edit)) (was mid now : Seated) (answered : List (List ℕ)) (outcomes : List Outcome) (stop : Outcome) → CameTo opening batch was answered outcomes mid → StopComesTo opening mid stop now
    → Makes was now (entries_of (outcomes ++ stop ∷ [])) (rotations_of (outcomes ++ stop ∷ []))
makes_all opening batch was mid now answered outcomes stop came stops =
    makes_then was mid now outcomes (stop ∷ []) (came_makes opening batch was mid answered outcomes came) (call_makes opening mid now calls.Stop stop stops)

-- the whole console
pub operated : {J V : Type 0} {hears : V → Typing → V → Type 0} (opening : Opening) (was mid : Scene J V) (now : Seated) (before after new : Option (List ℕ)) → was.console.batch ≡ None
    → (listened end : Result (Unit {0}) OperatorFault) → HasListened hears opening listened was mid before after → Stops opening listened end mid.console.seat now mid.written new
    → IsOperated opening end (λ typings. AreTold hears was.witness typings mid.witness) was.console.seat now before after was.written new
operated opening was mid now before after new closed listened end h s = record {
  listened = listened;
  input = h.input;
  read = h.read;
  finishes = h.finishes;
  wants = h.wants;
  answered = h.ends.answered;
  left = h.ends.left;
  lines = h.ends.parts;
  leaves = h.ends.leaves;
  whole = h.whole;
  outcomes = h.ends.outcomes;
  mid = mid.console.seat;
  came = rw closed at h.ends.came;
  typings = h.ends.typings;
  tells = h.ends.tells;
  heard = h.ends.heard;
  between = mid.written;
  writes = h.ends.writes;
  stop = s.stop;
  stops = s.came;
  ends = s.ends;
  makes = makes_all opening was.console.batch was.console.seat mid.console.seat now h.ends.answered h.ends.outcomes s.stop h.ends.came s.came;
}
