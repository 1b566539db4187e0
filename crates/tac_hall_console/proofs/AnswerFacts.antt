-- One line that is answered.
use Rattle.std.proofs.Common.{◌≡◌, ℕ, List, [], ◌∷◌, Result, Ok, Err, sym, subst, inl, inr, refl, ap, append-nil}
use Rattle.std.specs.Io.KnownBytes.{Appends}
use Rattle.std.proofs.KnownBytes.{Appends-nil}
use Rattle.tac_audit.specs.declared.notice.Typing.{Typing}
use Rattle.tac_hall.specs.Room.{Opening}
use Rattle.tac_hall_console.specs.declared.answering.Console.{Console}
use Rattle.tac_hall_console.specs.declared.fault.OperatorFault.{OperatorFault}
use Rattle.tac_hall_console.specs.declared.fault.OperatorFault.TheVariants as faults
use Rattle.tac_hall_console.specs.Operated.{LineComesTo, WritesBeginning, unanswered}
use Rattle.tac_hall_console.specs.Operating.{Tells, IsUntold, Sends, Scene, scene, LeavesBatch, EndsAt, Answers}

module _ {J V : Type 0} {hears : V → Typing → V → Type 0} (opening : Opening) (line : List ℕ) (was now : Scene J V) where
  -- the witness was told of it with its answer, which was written, or a beginning of that
  pub answers_sent : (result : Result (Unit {0}) OperatorFault) (text : List ℕ) → Tells (LineComesTo opening was.console.batch was.console.seat line) now.console.seat text
      → LeavesBatch hears (Ok tt) line was now → hears was.witness (record { line = line; answer = text }) now.witness → Sends result text was.written now.written → Answers hears opening result line was now
  answers_sent (Ok u) text t leaves heard sent = (
    tt,
    leaves,
    record {
      answered = line ∷ [];
      left = [];
      parts = refl;
      leaves = refl;
      outcomes = t.outcome ∷ [];
      came = (now.console.seat, t.came, refl);
      typings = record { line = line; answer = text } ∷ [];
      tells = ap (λ (s : List ℕ). record { line = line; answer = s } ∷ []) t.is;
      heard = (now.witness, heard, refl);
      writes = subst (Appends was.written now.written) (sym (append-nil text)) sent;
    },
  )
  answers_sent (Err faults.ReadFault) text t leaves heard sent = absurd sent
  answers_sent (Err faults.WriteFault) text t leaves heard sent = (
    tt,
    tt,
    record {
      answered = line ∷ [];
      left = [];
      parts = refl;
      leaves = tt;
      outcomes = t.outcome ∷ [];
      came = (now.console.seat, t.came, refl);
      typings = record { line = line; answer = text } ∷ [];
      tells = ap (λ (s : List ℕ). record { line = line; answer = s } ∷ []) t.is;
      heard = (now.witness, heard, refl);
      writes = subst (λ (s : List ℕ). WritesBeginning s was.written now.written) (sym (append-nil text)) sent;
    },
  )
  answers_sent (Err faults.Memory) text t leaves heard sent = absurd sent

  untold : hears was.witness (unanswered line) now.witness → Appends was.written now.written [] → IsUntold (LineComesTo opening was.console.batch was.console.seat line) was.console.seat now.console.seat
      → EndsAt hears opening (Err faults.Memory) (line ∷ []) [] was now
  untold heard nothing (inl same) = record {
    answered = [];
    left = line ∷ [];
    parts = refl;
    leaves = tt;
    outcomes = [];
    came = same;
    typings = unanswered line ∷ [];
    tells = inr (inl (line, [], refl, refl));
    heard = (now.witness, heard, refl);
    writes = nothing;
  }
  untold heard nothing (inr c) = record {
    answered = line ∷ [];
    left = [];
    parts = refl;
    leaves = tt;
    outcomes = c.0 ∷ [];
    came = (now.console.seat, c.1, refl);
    typings = unanswered line ∷ [];
    tells = inr (inr ([], line, refl, refl));
    heard = (now.witness, heard, refl);
    writes = nothing;
  }

-- memory ran out at it, and the witness was told of it without an answer
pub answers_untold : {J V : Type 0} {hears : V → Typing → V → Type 0} (opening : Opening) (result : Result (Unit {0}) OperatorFault) (line : List ℕ) (was : Scene J V) (console : Console J) (witness : V) → result ≡ Err faults.Memory
    → hears was.witness (unanswered line) witness → IsUntold (LineComesTo opening was.console.batch was.console.seat line) was.console.seat console.seat → Answers hears opening result line was (scene console witness was.written)
answers_untold opening result line was console witness is heard u = rw is (tt, tt, untold opening line was (scene console witness was.written) heard (Appends-nil was.written) u)
