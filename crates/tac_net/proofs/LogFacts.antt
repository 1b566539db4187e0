-- What a log took once it was told of a connection.
use Rattle.std.proofs.Common.{◌≡◌, inr, ℕ, List, [], ◌∷◌, true, Option, None, Some, Result, All, refl, sym, subst}
use Rattle.std.proofs.lemmas.List.Elements.{All-nil, All-cons}
use Rattle.tac_wire.specs.declared.door.Door.{Door}
use Rattle.tac_conn.specs.declared.ask.Ask.{Ask}
use Rattle.tac_audit.specs.declared.event.Named.{Named}
use Rattle.tac_audit.specs.declared.event.Origin.{Origin}
use Rattle.tac_audit.specs.declared.notice.Notice.{Notice}
use Rattle.tac_audit.specs.declared.notice.Typing.{Typing}
use Rattle.tac_audit.specs.Noted.{noted_of_each}
use Rattle.tac_audit.specs.Witness.{AreTold}
use Rattle.tac_hall.specs.declared.fault.HallFault.{HallFault}
use Rattle.tac_hall.specs.Room.{Opening}
use Rattle.tac_hall.specs.Seat.{Seated}
use Rattle.tac_hall_console.specs.declared.fault.OperatorFault.{OperatorFault}
use Rattle.tac_hall_console.specs.Operated.{IsOperated}
use Rattle.tac_journal.specs.Device.{HasLines}
use Rattle.tac_journal.specs.Log.{Keeping}
use Rattle.tac_worker.specs.declared.end.End.{End}
use Rattle.tac_worker.specs.Told.{refused_of, TakesUntil}
use Rattle.tac_worker.specs.Worked.{Exchange, Traffic, IsServedBy}
use Rattle.tac_net.specs.Connections.{TellsLog}
use Rattle.tac_net.specs.Logs.{Logs}

-- ---- a connection

module _ {end : End} {door : Door} {makes : List Exchange → Type 0} {refuses : Ask → HallFault → Type 0} {are_told others : List Notice → Option Notice → Type 0} {traffic : Traffic} where
  -- more is known of what was told
  pub served_as : (work : IsServedBy end door makes refuses are_told traffic) → others work.told.told (refused_of end work.told.left) → IsServedBy end door makes refuses others traffic
  served_as work more =
      let tells = work.told in
      record {
        input = work.input;
        read = work.read;
        finished = work.finished;
        memory = work.memory;
        closing = work.closing;
        ends = work.ends;
        told = record {
          told = tells.told;
          left = tells.left;
          parts = tells.parts;
          takes = more;
          leaves = tells.leaves;
          writes = tells.writes;
        };
      }

-- a log took each of these lines
taken : {S : Type 0} (took : S → List ℕ → Type 0) (lines : List (List ℕ)) (old new : S) → AreTold (λ (was : S) (line : List ℕ) (now : S). (now ≡ was) × took was line) old lines new
    → All (took old) lines
taken took [] old new t = All-nil (took old)
taken took (line ∷ lines) old new t = All-cons (took old) line lines t.1.1 (rw t.1.0 at (taken took lines t.0 new t.2))

-- nobody was
module _ {W : Type 0} (was now : W) where
  none_refused : (told : List Notice) (refused : Option Notice) → TakesUntil (λ (was : W) (notice : Notice) (now : W). Unit {0}) (λ (was : W) (notice : Notice) (now : W). ⊥) was told refused now → Logs None told refused
  none_refused told None t = refl
  none_refused told (Some notice) t = absurd t.2

  pub served_unlogged : {end : End} {door : Door} {makes : List Exchange → Type 0} {others : Ask → HallFault → Type 0} {traffic : Traffic}
      → IsServedBy end door makes others (λ told refused. TakesUntil (λ (was : W) (notice : Notice) (now : W). Unit {0}) (λ (was : W) (notice : Notice) (now : W). ⊥) was told refused now) traffic
      → IsServedBy end door makes others (Logs None) traffic
  served_unlogged work = served_as work (none_refused work.told.told _ work.told.takes)

-- ---- a witness

-- the log has the lines of all that it took
module _ {W S L : Type 0} (takes refuses : W → Notice → W → Type 0) (entry : W → S) (log_of : S → L) (keeping : L → Keeping) (origin : Origin) (who : Option Named) (named : origin.named ≡ who) (old : S) (log : L) (same : log_of old ≡ log) (was : W)
    (lines : (notices : List Notice) (now : W) → AreTold takes was notices now
    → HasLines (λ (was : S) (line : List ℕ) (now : S). (now ≡ was) × (keeping (log_of was)).took line) origin (noted_of_each notices) old (entry now)) where
  pub tells_log : (keeping log).is_kept ≡ true → TellsLog takes refuses (keeping log) who was
  tells_log kept = record {
    logged = λ told now t.
        let has = lines told now t in
        inr (origin, named, has.0, has.1, subst (λ (l : L). All (keeping l).took has.0) same (taken (λ (s : S). (keeping (log_of s)).took) has.0 old (entry now) has.2));
    refused = λ told between now notice t r. kept;
  }

-- ---- a console

-- what its witness was told isn't asked
pub operated_so : {opening : Opening} {end : Result (Unit {0}) OperatorFault} {heard : List Typing → Type 0} {was now : Seated} {before after old new : Option (List ℕ)}
    → IsOperated opening end heard was now before after old new → IsOperated opening end (λ typings. Unit {0}) was now before after old new
operated_so o = record {
  listened = o.listened;
  input = o.input;
  read = o.read;
  finishes = o.finishes;
  wants = o.wants;
  answered = o.answered;
  left = o.left;
  lines = o.lines;
  leaves = o.leaves;
  whole = o.whole;
  outcomes = o.outcomes;
  mid = o.mid;
  came = o.came;
  typings = o.typings;
  tells = o.tells;
  heard = tt;
  between = o.between;
  writes = o.writes;
  stop = o.stop;
  stops = o.stops;
  ends = o.ends;
  makes = o.makes;
}
