-- What is noted of a turn.
use Rattle.std.proofs.Common.{◌≡◌, ℕ, List, [], ◌∷◌, ◌++◌, map, Option, Result, Ok, Err, refl, sym, ap, subst, ◌∙◌, append_assoc, append-nil}
use Rattle.std.specs.Io.KnownBytes.{Appends}
use Rattle.tac_wire.specs.declared.door.Door.{Door}
use Rattle.tac_conn.specs.declared.ask.Answer.{Answer}
use Rattle.tac_conn.specs.declared.ask.Ask.{Ask}
use Rattle.tac_audit.specs.declared.notice.Notice.{Notice}
use Rattle.tac_hall.specs.declared.fault.HallFault.{HallFault}
use Rattle.tac_stream.specs.declared.stream.Stream.{Stream}
use Rattle.tac_worker.specs.declared.end.End.{End}
use Rattle.tac_worker.specs.declared.end.End.TheVariants.{Finished, ByProtocol, Stopped, LogFull, Memory, ReadFault, Unwitnessed, NoSeat}
use Rattle.tac_worker.specs.declared.turning.Went.{Went}
use Rattle.tac_worker.specs.declared.turning.Went.TheVariants.{On, Rests}
use Rattle.tac_worker.specs.Noting.{answered, IsNoted, Noting, NotesNone}
use Rattle.tac_worker.specs.Served.{Sending}
use Rattle.tac_worker.specs.Worked.{Exchange, AreMade, AreAllMade, Worker, Leaves, Writes}
use Rattle.tac_worker.specs.Working.{Turned}

-- ---- a caller that rests

pub notes_none : {S : Type 0} (rests : S → S → Type 0) → ((caller : S) → rests caller caller) → (n : Noting S) → NotesNone rests n n
notes_none rests so n = (so n.caller, refl)

-- ---- the calls alone

-- what was noted is what was made
pub noted_made : (was : List (Ask × Answer)) (made : List Exchange) (now : List (Ask × Answer)) → AreMade IsNoted was made now → now ≡ was ++ map answered made
noted_made was [] now m = m ∙ sym (append-nil was)
noted_made was (exchange ∷ made) now m =
    noted_made m.0 made now m.2 ∙ ap (λ (l : List (Ask × Answer)). l ++ map answered made) m.1 ∙ append_assoc was (answered exchange ∷ []) (map answered made)

-- ---- who is told of what was written

module _ (old new before after : Option (List ℕ)) (lift : (bytes : List ℕ) → Appends old new bytes → Appends before after bytes) where
  writes_as : (end : End) (door : Door) (sendings : List Sending) (answers : List Answer) → Writes end door sendings answers old new → Writes end door sendings answers before after
  writes_as Finished door sendings answers w = lift _ w
  writes_as ByProtocol door sendings answers w = lift _ w
  writes_as Stopped door sendings answers w = lift _ w
  writes_as LogFull door sendings answers w = lift _ w
  writes_as Memory door sendings answers w = record { first = w.first; others = w.others; parts = w.parts; carries = w.carries; written = lift _ w.written }
  writes_as ReadFault door sendings answers w = lift _ w
  writes_as Unwitnessed door sendings answers w = record { first = w.first; next = w.next; others = w.others; parts = w.parts; one = w.one; carries = w.carries; written = lift _ w.written }
  writes_as NoSeat door sendings answers w = lift _ w

-- ---- a turn, of whose caller less is known

module _ {S T V : Type 0} (step : S → Exchange → S → Type 0) (rests : S → S → Type 0) (refuses : S → Ask → HallFault → Type 0)
    (other_step : T → Exchange → T → Type 0) (other_rests : T → T → Type 0) (other_refuses : T → Ask → HallFault → Type 0) (takes refuses_notice : V → Notice → V → Type 0)
    (less : S → T) (steps_less : (was now : S) (exchange : Exchange) → step was exchange now → other_step (less was) exchange (less now)) (rests_less : (was now : S) → rests was now → other_rests (less was) (less now)) where
  abbrev pub worker_as : Worker S V → Worker T V
  worker_as worker = record { caller = less worker.caller; witness = worker.witness }

  made_as : (was : S) (made : List Exchange) (now : S) → AreMade step was made now → AreMade other_step (less was) made (less now)
  made_as was [] now m = ap less m
  made_as was (exchange ∷ made) now m = (less m.0, steps_less was m.0 exchange m.1, made_as m.0 made now m.2)

  pub all_made_as : (was : S) (made : List Exchange) (now : S) → AreAllMade step rests was made now → AreAllMade other_step other_rests (less was) made (less now)
  all_made_as was made now m = (less m.0, made_as was made m.0 m.1, rests_less m.0 now m.2)

  module _ (door : Door) (bytes : List ℕ) (taken : ℕ) (was now : Worker S V) (old new before after : Option (List ℕ)) (stream : Stream) (lift : (written : List ℕ) → Appends old new written → Appends before after written)
      (refused : ◌≡◌ {A = Ask → HallFault → Type 0} (other_refuses (less now.caller)) (refuses now.caller)) where
    pub turned_as : (result : Result Went End) → Turned step rests refuses takes refuses_notice result door bytes taken was now old new stream
        → Turned other_step other_rests other_refuses takes refuses_notice result door bytes taken (worker_as was) (worker_as now) before after stream
    turned_as (Ok On) t = record {
      frame = t.frame;
      more = t.more;
      left = t.left;
      goes = record {
        made = t.goes.made;
        sendings = t.goes.sendings;
        notices = t.goes.notices;
        handled = t.goes.handled;
        makes = made_as was.caller t.goes.made now.caller t.goes.makes;
        told = t.goes.told;
        written = lift _ t.goes.written;
      };
      stays = t.stays;
      ready = t.ready;
      stands = t.stands;
    }
    turned_as (Ok Rests) t = record { left = t.left; tail = t.tail; same = ap worker_as t.same; nothing = lift _ t.nothing; ready = t.ready; stands = t.stands }
    turned_as (Err end) t = record {
      unfinished = t.unfinished;
      memory = t.memory;
      closing = t.closing;
      ends = record {
        made = t.ends.made;
        makes = all_made_as was.caller t.ends.made now.caller t.ends.makes;
        left = t.ends.left;
        asks = t.ends.asks;
        leaves = subst (λ (r : Ask → HallFault → Type 0). Leaves end r t.ends.left) (sym refused) t.ends.leaves;
        writes = writes_as old new before after lift end door _ _ t.ends.writes;
      };
      told = record {
        told = t.told.told;
        left = t.told.left;
        parts = t.told.parts;
        takes = t.told.takes;
        leaves = t.told.leaves;
        writes = lift _ t.told.writes;
      };
    }
