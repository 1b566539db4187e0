-- The whole input, one read after another.
use Rattle.std.proofs.Common.{◌≡◌, ◌<◌, ℕ, true, inl, inr, List, [], ◌++◌, length, Option, Result, Ok, Err, IsErrAnd, refl, sym, ap, subst, ◌∙◌, append-nil, append_assoc, length-append, arith}
use Rattle.std.specs.Io.KnownBytes.{Consumes, IsAtEnd, Keeps}
use Rattle.std.proofs.KnownBytes.{Consumes-nil, Consumes-trans, Consumes-kept}
use Rattle.basics.specs.Lines.{lines_of}
use Rattle.tac_audit.specs.declared.notice.Typing.{Typing}
use Rattle.tac_hall.specs.Room.{Opening}
use Rattle.tac_hall_console.specs.declared.fault.OperatorFault.{OperatorFault}
use Rattle.tac_hall_console.specs.declared.fault.OperatorFault.TheVariants as faults
use Rattle.tac_hall_console.specs.declared.operator.Went.TheVariants.{On, Quits}
use Rattle.tac_hall_console.specs.Commands.{ended_lines, commands, quits}
use Rattle.tac_hall_console.specs.Operated.{typings_of, quit_of, HaveEnded}
use Rattle.tac_hall_console.specs.Operating.{IsRead, Scene, EndsAt, Took, Listens, HasListened}
use Rattle.tac_hall_console.proofs.LineFacts.{ended_open, commands_last, commands_quit, quits_ended}
use Rattle.tac_hall_console.proofs.HeardFacts.{tells_before, quit_told}
use Rattle.tac_hall_console.proofs.GoingFacts.{goes_none, goes_then, goes_more, quits_ended_now, ends_unread, ends_after_lines, ends_after_ended}

-- it ends at commands that ended in LF
abbrev EndsWhole : {J V : Type 0} → (V → Typing → V → Type 0) → Opening → Result (Unit {0}) OperatorFault → List ℕ → Scene J V → Scene J V → Type 0
EndsWhole hears opening end input was now = (ends : EndsAt hears opening end (commands (lines_of input)) (quit_of (lines_of input)) was now) × HaveEnded input ends.answered

-- of commands that ended the first were answered
ends_whole : {J V : Type 0} {hears : V → Typing → V → Type 0} {opening : Opening} (fault : OperatorFault) (input : List ℕ) (was now : Scene J V) → IsRead (Err fault) → EndsAt hears opening (Err fault) (commands (ended_lines input)) [] was now
    → EndsWhole hears opening (Err fault) input was now
ends_whole faults.ReadFault input was now is e = absurd is
ends_whole faults.WriteFault input was now is e =
    let last = commands_last input in (
      record {
        answered = e.answered;
        left = e.left ++ last.0;
        parts = last.1 ∙ ap (λ (l : List (List ℕ)). l ++ last.0) e.parts ∙ append_assoc e.answered e.left last.0;
        leaves = tt;
        outcomes = e.outcomes;
        came = e.came;
        typings = e.typings;
        tells = e.tells;
        heard = e.heard;
        writes = e.writes;
      },
      (e.left, e.parts),
    )
ends_whole faults.Memory input was now is e =
    let last = commands_last input in (
      record {
        answered = e.answered;
        left = e.left ++ last.0;
        parts = last.1 ∙ ap (λ (l : List (List ℕ)). l ++ last.0) e.parts ∙ append_assoc e.answered e.left last.0;
        leaves = tt;
        outcomes = e.outcomes;
        came = e.came;
        typings = e.typings;
        tells = tells_before faults.Memory e.answered e.left last.0 e.outcomes [] (quit_of (lines_of input)) e.typings e.tells;
        heard = e.heard;
        writes = e.writes;
      },
      (e.left, e.parts),
    )

-- all were
ends_quit : {J V : Type 0} {hears : V → Typing → V → Type 0} {opening : Opening} (input : List ℕ) (was now : Scene J V) → quits (ended_lines input) ≡ true → EndsAt hears opening (Ok tt) (commands (ended_lines input)) (quit_of (ended_lines input)) was now
    → EndsWhole hears opening (Ok tt) input was now
ends_quit input was now quit e = (
  record {
    answered = e.answered;
    left = e.left;
    parts = commands_quit input quit ∙ e.parts;
    leaves = e.leaves;
    outcomes = e.outcomes;
    came = e.came;
    typings = e.typings;
    tells = e.tells ∙ ap (λ (t : List Typing). typings_of e.answered e.outcomes ++ t) (quit_told (ended_lines input) quit ∙ sym (quit_told (lines_of input) (quits_ended input quit)));
    heard = e.heard;
    writes = e.writes;
  },
  (e.left, e.parts),
)

-- nothing was read yet
pub listens_first : {J V : Type 0} {hears : V → Typing → V → Type 0} {opening : Opening} (begun : List ℕ) (was : Scene J V) (before : Option (List ℕ)) → begun ≡ [] → Listens hears opening begun was was before before
listens_first begun was before none = rw none (record {
  input = [];
  read = Consumes-nil before;
  goes = goes_none [] was;
  opens = refl;
})

module _ {J V : Type 0} {hears : V → Typing → V → Type 0} {opening : Opening} (begun : List ℕ) (was mid : Scene J V) (before after : Option (List ℕ)) (s : Listens hears opening begun was mid before after) where
  -- reading failed
  pub heard_unread : (left : Option (List ℕ)) → Keeps after left → HasListened hears opening (Err faults.ReadFault) was mid before left
  heard_unread left kept =
      let last = quit_of (ended_lines s.input) in
      let ends : EndsAt hears opening (Err faults.ReadFault) (commands (ended_lines s.input)) last was mid =
      ends_after_ended s.input begun was mid s.goes (Err faults.ReadFault) last mid
      (subst (λ (l : List (List ℕ)). EndsAt hears opening (Err faults.ReadFault) l last mid mid) (sym (ap commands (ended_open begun s.opens))) (ends_unread last mid)) in
      record {
        input = s.input;
        read = Consumes-kept before after left s.input s.read kept;
        finishes = quits_ended_now s.input begun was mid s.goes ∙ ap quits (ended_open begun s.opens);
        wants = λ e. absurd cc;
        ends = ends;
        whole = inl (ends.left, ends.parts);
      }

  module _ (piece : List ℕ) (left : Option (List ℕ)) (read : Consumes after left piece) (now : Scene J V) where
    -- the lines of a piece were answered
    pub listens_more : (next : List ℕ) → Took hears opening (Ok On) begun piece next mid now → Listens hears opening next was now before left
    listens_more next t = record {
      input = s.input ++ piece;
      read = Consumes-trans before after left s.input piece s.read read;
      goes = goes_then (s.input ++ piece) (begun ++ piece) was mid (goes_more s.input begun was mid s.goes piece) next now t.1;
      opens = t.0;
    }

    -- one of them was `quit`
    pub heard_quit : (next : List ℕ) → Took hears opening (Ok Quits) begun piece next mid now → HasListened hears opening (Ok tt) was now before left
    heard_quit next t =
        let more = goes_more s.input begun was mid s.goes piece in
        let all = s.input ++ piece in
        let same : quits (ended_lines all) ≡ quits (ended_lines (begun ++ piece)) = quits_ended_now all (begun ++ piece) was mid more in
        let quit : quits (ended_lines all) ≡ true = same ∙ t.0 in
        let last : quit_of (ended_lines (begun ++ piece)) ≡ quit_of (ended_lines all) = quit_told (ended_lines (begun ++ piece)) t.0 ∙ sym (quit_told (ended_lines all) quit) in
        let ends = ends_quit all was now quit
        (subst (λ (l : List Typing). EndsAt hears opening (Ok tt) (commands (ended_lines all)) l was now) last
        (ends_after_ended all (begun ++ piece) was mid more (Ok tt) (quit_of (ended_lines (begun ++ piece))) now t.1)) in
        record {
          input = all;
          read = Consumes-trans before after left s.input piece s.read read;
          finishes = λ no. absurd cc;
          wants = λ e. absurd cc;
          ends = ends.0;
          whole = inl ends.1;
        }

    -- it failed at one of them
    ends_there : (fault : OperatorFault) → IsRead (Err fault) → EndsAt hears opening (Err fault) (commands (ended_lines (begun ++ piece))) [] mid now → EndsWhole hears opening (Err fault) (s.input ++ piece) was now
    ends_there fault is e =
        ends_whole fault (s.input ++ piece) was now is (ends_after_ended (s.input ++ piece) (begun ++ piece) was mid (goes_more s.input begun was mid s.goes piece) (Err fault) [] now e)

    heard_fault : (fault : OperatorFault) (next : List ℕ) → 0 < length piece → Took hears opening (Err fault) begun piece next mid now → HasListened hears opening (Err fault) was now before left
    heard_fault faults.ReadFault next some t = absurd t.0
    heard_fault faults.WriteFault next some t = record {
      input = s.input ++ piece;
      read = Consumes-trans before after left s.input piece s.read read;
      finishes = tt;
      wants = λ e. absurd cc;
      ends = (ends_there faults.WriteFault t.0 t.1).0;
      whole = inl (ends_there faults.WriteFault t.0 t.1).1;
    }
    heard_fault faults.Memory next some t = record {
      input = s.input ++ piece;
      read = Consumes-trans before after left s.input piece s.read read;
      finishes = tt;
      wants = λ e. omega (arith, some, length-append s.input piece);
      ends = (ends_there faults.Memory t.0 t.1).0;
      whole = inl (ends_there faults.Memory t.0 t.1).1;
    }

    pub heard_fault_as : (end : Result (Unit {0}) OperatorFault) (fault : OperatorFault) (next : List ℕ) → IsErrAnd end (λ e. e ≡ fault) → 0 < length piece
        → Took hears opening (Err fault) begun piece next mid now → HasListened hears opening end was now before left
    heard_fault_as (Ok u) fault next is some t = absurd is
    heard_fault_as (Err same) fault next is some t = rw is (heard_fault fault next some t)

  module _ (left : Option (List ℕ)) (read : Consumes after left []) (at_end : IsAtEnd left) (now : Scene J V) where
    read_all : Consumes before left s.input
    read_all = rw (append-nil s.input) at (Consumes-trans before after left s.input [] s.read read)

    -- the input ended
    pub heard_last : (end : Result (Unit {0}) OperatorFault) → IsRead end → (end ≡ Err faults.Memory → 0 < length begun) → EndsAt hears opening end (commands (lines_of begun)) (quit_of (lines_of begun)) mid now
        → HasListened hears opening end was now before left
    heard_last (Ok u) is some e = record {
      input = s.input;
      read = read_all;
      finishes = λ no. at_end;
      wants = λ e. absurd cc;
      ends = ends_after_lines s.input begun was mid s.goes (Ok u) now e;
      whole = inr at_end;
    }
    heard_last (Err faults.ReadFault) is some e = absurd is
    heard_last (Err faults.WriteFault) is some e = record {
      input = s.input;
      read = read_all;
      finishes = tt;
      wants = λ e. absurd cc;
      ends = ends_after_lines s.input begun was mid s.goes (Err faults.WriteFault) now e;
      whole = inr at_end;
    }
    heard_last (Err faults.Memory) is some e = record {
      input = s.input;
      read = read_all;
      finishes = tt;
      wants = λ e. (let least = some refl in let within = s.goes.within in omega arith);
      ends = ends_after_lines s.input begun was mid s.goes (Err faults.Memory) now e;
      whole = inr at_end;
    }
