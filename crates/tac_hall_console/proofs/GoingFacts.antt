-- Lines that are answered, one after another.
use Rattle.std.proofs.Common.{◌≡◌, ℕ, true, false, List, [], ◌∷◌, ◌++◌, Option, Some, Result, Ok, Err, inl, refl, sym, ap, subst, ◌∙◌, append-nil, append_assoc, length-append, arith}
use Rattle.std.specs.Prelude.{codes}
use Rattle.std.specs.Io.KnownBytes.{Appends}
use Rattle.std.proofs.KnownBytes.{Appends-nil, Appends-trans}
use Rattle.std.proofs.lemmas.Grind.{flat_map-append}
use Rattle.basics.specs.Lines.{split_at_first, lines_of}
use Rattle.pol_edit.specs.declared.edit.Edit.{Edit}
use Rattle.tac_audit.specs.Witness.{AreTold}
use Rattle.tac_audit.specs.declared.notice.Typing.{Typing}
use Rattle.tac_hall.specs.Room.{Opening}
use Rattle.tac_hall.specs.Seat.{Seated}
use Rattle.tac_hall_console.specs.declared.answering.Console.{Console}
use Rattle.tac_hall_console.specs.declared.fault.OperatorFault.{OperatorFault}
use Rattle.tac_hall_console.specs.declared.fault.OperatorFault.TheVariants as faults
use Rattle.tac_hall_console.specs.Commands.{ended_lines, is_quit, commands, quits}
use Rattle.tac_hall_console.specs.Operated.{Outcome, batch_by, CameTo, typings_of, unanswered, quit_of, answers_of, WritesBeginning, WritesTo}
use Rattle.tac_hall_console.specs.Operating.{batch_left, Scene, scene, GoesOn, EndsAt, IsRead, LeavesBatch}
use Rattle.tac_hall_console.proofs.LineFacts.{split_more, split_shorter, lines_split, ended_split, command_first, quits_later}
use Rattle.tac_hall_console.proofs.HeardFacts.{heard_then, typings_append, tells_after, tells_before, quit_is}

pub batch_append : (batch : Option (List Edit)) (lines later : List (List ℕ)) → batch_left batch (lines ++ later) ≡ batch_left (batch_left batch lines) later
batch_append batch [] later = refl
batch_append batch (line ∷ lines) later = batch_append (batch_by batch line) lines later

pub came_append : (opening : Opening) (batch : Option (List Edit)) (was mid now : Seated) (lines : List (List ℕ)) (outcomes : List Outcome) (later : List (List ℕ)) (others : List Outcome)
    → CameTo opening batch was lines outcomes mid → CameTo opening (batch_left batch lines) mid later others now → CameTo opening batch was (lines ++ later) (outcomes ++ others) now
came_append opening batch was mid now [] [] later others a b = subst (λ (s : Seated). CameTo opening batch s later others now) a b
came_append opening batch was mid now [] (outcome ∷ outcomes) later others a b = absurd a
came_append opening batch was mid now (line ∷ lines) [] later others a b = absurd a
came_append opening batch was mid now (line ∷ lines) (outcome ∷ outcomes) later others a b = (
  a.0,
  a.1,
  came_append opening (batch_by batch line) a.0 mid now lines outcomes later others a.2 b,
)

-- the same, where this batch is found after the first lines
came_after : (opening : Opening) (batch between : Option (List Edit)) (was mid now : Seated) (lines : List (List ℕ)) (outcomes : List Outcome) (later : List (List ℕ)) (others : List Outcome)
    → CameTo opening batch was lines outcomes mid → between ≡ batch_left batch lines → CameTo opening between mid later others now → CameTo opening batch was (lines ++ later) (outcomes ++ others) now
came_after opening batch between was mid now lines outcomes later others a is b = came_append opening batch was mid now lines outcomes later others a (rw is at b)

answers_append : (typings others : List Typing) → answers_of (typings ++ others) ≡ answers_of typings ++ answers_of others
answers_append typings others = flat_map-append (λ (typing : Typing). typing.answer) typings others

-- some answers were written, and then others
written_then : (typings others : List Typing) (old mid new : Option (List ℕ)) → Appends old mid (answers_of typings) → Appends mid new (answers_of others) → Appends old new (answers_of (typings ++ others))
written_then typings others old mid new a b = subst (Appends old new) (sym (answers_append typings others)) (Appends-trans old mid new _ _ a b)

beginning_then : (typings others : List Typing) (old mid new : Option (List ℕ)) → Appends old mid (answers_of typings) → WritesBeginning (answers_of others) mid new → WritesBeginning (answers_of (typings ++ others)) old new
beginning_then typings others old mid new a b = record {
  first = answers_of typings ++ b.first;
  others = b.others;
  parts = answers_append typings others ∙ ap (λ (t : List ℕ). answers_of typings ++ t) b.parts ∙ sym (append_assoc (answers_of typings) b.first b.others);
  some_left = b.some_left;
  written = Appends-trans old mid new _ _ a b.written;
}

-- ---- going on

pub goes_none : {J V : Type 0} {hears : V → Typing → V → Type 0} {opening : Opening} (bytes : List ℕ) (was : Scene J V) → GoesOn hears opening bytes bytes was was
goes_none bytes was = record {
  answered = [];
  lines = λ more. refl;
  ended = λ more. refl;
  quitting = λ more. refl;
  quitting_ended = λ more. refl;
  within = omega arith;
  outcomes = [];
  came = refl;
  batch = refl;
  heard = refl;
  written = Appends-nil was.written;
}

module _ {J V : Type 0} {hears : V → Typing → V → Type 0} {opening : Opening} (bytes left : List ℕ) (was mid : Scene J V) (g : GoesOn hears opening bytes left was mid) where
  -- and further
  pub goes_then : (rest : List ℕ) (now : Scene J V) → GoesOn hears opening left rest mid now → GoesOn hears opening bytes rest was now
  goes_then rest now h =
      let both = typings_append opening was.console.batch was.console.seat mid.console.seat g.answered g.outcomes h.answered h.outcomes g.came in
      record {
        answered = g.answered ++ h.answered;
        lines = λ more. g.lines more ∙ ap (λ (l : List (List ℕ)). g.answered ++ l) (h.lines more) ∙ sym (append_assoc g.answered h.answered _);
        ended = λ more. g.ended more ∙ ap (λ (l : List (List ℕ)). g.answered ++ l) (h.ended more) ∙ sym (append_assoc g.answered h.answered _);
        quitting = λ more. g.quitting more ∙ h.quitting more;
        quitting_ended = λ more. g.quitting_ended more ∙ h.quitting_ended more;
        within = (let a = g.within in let b = h.within in omega arith);
        outcomes = g.outcomes ++ h.outcomes;
        came = came_after opening was.console.batch mid.console.batch was.console.seat mid.console.seat now.console.seat g.answered g.outcomes h.answered h.outcomes g.came g.batch h.came;
        batch = h.batch ∙ ap (λ (b : Option (List Edit)). batch_left b h.answered) g.batch ∙ sym (batch_append was.console.batch g.answered h.answered);
        heard = rw both (heard_then hears was.witness mid.witness now.witness (typings_of g.answered g.outcomes) (typings_of h.answered h.outcomes) g.heard h.heard);
        written = rw both (written_then (typings_of g.answered g.outcomes) (typings_of h.answered h.outcomes) was.written mid.written now.written g.written h.written);
      }

  -- more bytes come
  pub goes_more : (piece : List ℕ) → GoesOn hears opening (bytes ++ piece) (left ++ piece) was mid
  goes_more piece = record {
    answered = g.answered;
    lines = λ more. rw (append_assoc bytes piece more, append_assoc left piece more) (g.lines (piece ++ more));
    ended = λ more. rw (append_assoc bytes piece more, append_assoc left piece more) (g.ended (piece ++ more));
    quitting = λ more. rw (append_assoc bytes piece more, append_assoc left piece more) (g.quitting (piece ++ more));
    quitting_ended = λ more. rw (append_assoc bytes piece more, append_assoc left piece more) (g.quitting_ended (piece ++ more));
    within = (let a = g.within in omega (arith, length-append bytes piece, length-append left piece));
    outcomes = g.outcomes;
    came = g.came;
    batch = g.batch;
    heard = g.heard;
    written = g.written;
  }

  -- the commands so far
  commands_now : commands (lines_of bytes) ≡ g.answered ++ commands (lines_of left)
  commands_now = rw (append-nil bytes, append-nil left) at (g.lines [])

  ended_now : commands (ended_lines bytes) ≡ g.answered ++ commands (ended_lines left)
  ended_now = rw (append-nil bytes, append-nil left) at (g.ended [])

  quits_now : quits (lines_of bytes) ≡ quits (lines_of left)
  quits_now = rw (append-nil bytes, append-nil left) at (g.quitting [])

  pub quits_ended_now : quits (ended_lines bytes) ≡ quits (ended_lines left)
  quits_ended_now = rw (append-nil bytes, append-nil left) at (g.quitting_ended [])

-- ---- one line

-- a line was answered whole
pub goes_line : {J V : Type 0} {hears : V → Typing → V → Type 0} {opening : Opening} (bytes line rest : List ℕ) (was now : Scene J V) → split_at_first 10 bytes ≡ Some (line, rest) → is_quit line ≡ false
    → LeavesBatch hears (Ok tt) line was now → EndsAt hears opening (Ok tt) (line ∷ []) [] was now → GoesOn hears opening bytes rest was now
goes_line {hears = hears} bytes line rest was now parts other leaves e =
    let all : line ∷ [] ≡ e.answered = e.parts ∙ ap (λ (l : List (List ℕ)). e.answered ++ l) e.leaves ∙ append-nil e.answered in
    let only = e.tells ∙ append-nil (typings_of e.answered e.outcomes) in
    record {
      answered = e.answered;
      lines = λ more.
          ap commands (lines_split (bytes ++ more) line (rest ++ more) (split_more bytes more line rest parts)) ∙ command_first line (lines_of (rest ++ more)) other
          ∙ ap (λ (l : List (List ℕ)). l ++ commands (lines_of (rest ++ more))) all;
      ended = λ more.
          ap commands (ended_split (bytes ++ more) line (rest ++ more) (split_more bytes more line rest parts)) ∙ command_first line (ended_lines (rest ++ more)) other
          ∙ ap (λ (l : List (List ℕ)). l ++ commands (ended_lines (rest ++ more))) all;
      quitting = λ more. ap quits (lines_split (bytes ++ more) line (rest ++ more) (split_more bytes more line rest parts)) ∙ quits_later line (lines_of (rest ++ more)) other;
      quitting_ended = λ more. ap quits (ended_split (bytes ++ more) line (rest ++ more) (split_more bytes more line rest parts)) ∙ quits_later line (ended_lines (rest ++ more)) other;
      within = (let a = split_shorter bytes line rest parts in omega arith);
      outcomes = e.outcomes;
      came = e.came;
      batch = leaves ∙ ap (batch_left was.console.batch) all;
      heard = subst (λ (t : List Typing). AreTold hears was.witness t now.witness) only e.heard;
      written = subst (λ (t : List Typing). Appends was.written now.written (answers_of t)) only e.writes;
    }

-- ---- the end

-- there is nothing more to answer
pub ends_none : {J V : Type 0} {hears : V → Typing → V → Type 0} {opening : Opening} (was : Scene J V) → EndsAt hears opening (Ok tt) [] [] was was
ends_none was = record {
  answered = [];
  left = [];
  parts = refl;
  leaves = refl;
  outcomes = [];
  came = refl;
  typings = [];
  tells = refl;
  heard = refl;
  writes = Appends-nil was.written;
}

-- a line is `quit`, of which the witness is told
pub ends_quit : {J V : Type 0} {hears : V → Typing → V → Type 0} {opening : Opening} (line : List ℕ) (was : Scene J V) (console : Console J) (witness : V) → is_quit line ≡ true → console ≡ was.console → hears was.witness (unanswered line) witness
    → EndsAt hears opening (Ok tt) [] (unanswered (codes "quit") ∷ []) was (scene console witness was.written)
ends_quit {J = J} {hears = hears} line was console witness quit same heard = record {
  answered = [];
  left = [];
  parts = refl;
  leaves = refl;
  outcomes = [];
  came = ap (λ (c : Console J). c.seat) same;
  typings = unanswered (codes "quit") ∷ [];
  tells = refl;
  heard = (witness, subst (λ (l : List ℕ). hears was.witness (unanswered l) witness) (quit_is line quit) heard, refl);
  writes = Appends-nil was.written;
}

pub ends_unread : {J V : Type 0} {hears : V → Typing → V → Type 0} {opening : Opening} (last : List Typing) (was : Scene J V) → EndsAt hears opening (Err faults.ReadFault) [] last was was
ends_unread last was = record {
  answered = [];
  left = [];
  parts = refl;
  leaves = refl;
  outcomes = [];
  came = refl;
  typings = [];
  tells = refl;
  heard = refl;
  writes = Appends-nil was.written;
}

-- there is no memory for more
pub ends_memory : {J V : Type 0} {hears : V → Typing → V → Type 0} {opening : Opening} (lines : List (List ℕ)) (was : Scene J V) → EndsAt hears opening (Err faults.Memory) lines [] was was
ends_memory lines was = record {
  answered = [];
  left = lines;
  parts = refl;
  leaves = tt;
  outcomes = [];
  came = refl;
  typings = [];
  tells = inl refl;
  heard = refl;
  writes = Appends-nil was.written;
}

-- a fault leaves later lines too
pub ends_before : {J V : Type 0} {hears : V → Typing → V → Type 0} {opening : Opening} (fault : OperatorFault) (lines later : List (List ℕ)) (was now : Scene J V) → IsRead (Err fault)
    → EndsAt hears opening (Err fault) lines [] was now → EndsAt hears opening (Err fault) (lines ++ later) [] was now
ends_before faults.ReadFault lines later was now read e = absurd read
ends_before faults.WriteFault lines later was now read e = record {
  answered = e.answered;
  left = e.left ++ later;
  parts = ap (λ (l : List (List ℕ)). l ++ later) e.parts ∙ append_assoc e.answered e.left later;
  leaves = tt;
  outcomes = e.outcomes;
  came = e.came;
  typings = e.typings;
  tells = e.tells;
  heard = e.heard;
  writes = e.writes;
}
ends_before faults.Memory lines later was now read e = record {
  answered = e.answered;
  left = e.left ++ later;
  parts = ap (λ (l : List (List ℕ)). l ++ later) e.parts ∙ append_assoc e.answered e.left later;
  leaves = tt;
  outcomes = e.outcomes;
  came = e.came;
  typings = e.typings;
  tells = tells_before faults.Memory e.answered e.left later e.outcomes [] [] e.typings e.tells;
  heard = e.heard;
  writes = e.writes;
}

-- after answers that were written
writes_after : (end : Result (Unit {0}) OperatorFault) (typings others : List Typing) (old mid new : Option (List ℕ)) → Appends old mid (answers_of typings) → WritesTo end others mid new → WritesTo end (typings ++ others) old new
writes_after (Ok _) typings others old mid new a b = written_then typings others old mid new a b
writes_after (Err faults.ReadFault) typings others old mid new a b = written_then typings others old mid new a b
writes_after (Err faults.WriteFault) typings others old mid new a b = beginning_then typings others old mid new a b
writes_after (Err faults.Memory) typings others old mid new a b = written_then typings others old mid new a b

module _ {J V : Type 0} {hears : V → Typing → V → Type 0} {opening : Opening} (bytes left : List ℕ) (was mid : Scene J V) (g : GoesOn hears opening bytes left was mid) where
  ends_after : (end : Result (Unit {0}) OperatorFault) (lines : List (List ℕ)) (last : List Typing) (now : Scene J V) → EndsAt hears opening end lines last mid now → EndsAt hears opening end (g.answered ++ lines) last was now
  ends_after end lines last now e = record {
    answered = g.answered ++ e.answered;
    left = e.left;
    parts = ap (λ (l : List (List ℕ)). g.answered ++ l) e.parts ∙ sym (append_assoc g.answered e.answered e.left);
    leaves = e.leaves;
    outcomes = g.outcomes ++ e.outcomes;
    came = came_after opening was.console.batch mid.console.batch was.console.seat mid.console.seat now.console.seat g.answered g.outcomes e.answered e.outcomes g.came g.batch e.came;
    typings = typings_of g.answered g.outcomes ++ e.typings;
    tells = tells_after opening was.console.batch was.console.seat mid.console.seat g.answered g.outcomes g.came end e.answered e.left e.outcomes last e.typings e.tells;
    heard = heard_then hears was.witness mid.witness now.witness (typings_of g.answered g.outcomes) e.typings g.heard e.heard;
    writes = writes_after end (typings_of g.answered g.outcomes) e.typings was.written mid.written now.written g.written e.writes;
  }

  -- it ends at what was left
  pub ends_after_lines : (end : Result (Unit {0}) OperatorFault) (now : Scene J V) → EndsAt hears opening end (commands (lines_of left)) (quit_of (lines_of left)) mid now
      → EndsAt hears opening end (commands (lines_of bytes)) (quit_of (lines_of bytes)) was now
  ends_after_lines end now e =
      rw (commands_now bytes left was mid g, quits_now bytes left was mid g) (ends_after end (commands (lines_of left)) (quit_of (lines_of left)) now e)

  pub ends_after_ended : (end : Result (Unit {0}) OperatorFault) (last : List Typing) (now : Scene J V) → EndsAt hears opening end (commands (ended_lines left)) last mid now
      → EndsAt hears opening end (commands (ended_lines bytes)) last was now
  ends_after_ended end last now e =
      subst (λ (l : List (List ℕ)). EndsAt hears opening end l last was now) (sym (ended_now bytes left was mid g)) (ends_after end (commands (ended_lines left)) last now e)
