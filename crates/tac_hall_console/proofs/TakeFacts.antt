-- The lines of a piece.
use Rattle.std.proofs.Common.{◌≡◌, ◌<◌, ℕ, zero, suc, eqb, eqb-true, length, Bool, true, false, List, [], ◌∷◌, ◌++◌, None, Some, Result, Ok, Err, IsErrAnd, sym, ap, subst, ◌∙◌, arith}
use Rattle.std.specs.Prelude.{codes}
use Rattle.basics.specs.Lines.{split_at_first, lines_of}
use Rattle.tac_audit.specs.declared.notice.Typing.{Typing}
use Rattle.tac_hall.specs.Room.{Opening}
use Rattle.tac_hall_console.specs.declared.answering.Console.{Console}
use Rattle.tac_hall_console.specs.declared.fault.OperatorFault.{OperatorFault}
use Rattle.tac_hall_console.specs.declared.fault.OperatorFault.TheVariants as faults
use Rattle.tac_hall_console.specs.declared.operator.Went.{Went}
use Rattle.tac_hall_console.specs.declared.operator.Went.TheVariants.{On, Quits}
use Rattle.tac_hall_console.specs.Commands.{ended_lines, is_quit, commands, quits}
use Rattle.tac_hall_console.specs.Operated.{unanswered, quit_of}
use Rattle.tac_hall_console.specs.Operating.{IsOpen, Scene, scene, GoesOn, EndsAt, Answers, Took}
use Rattle.tac_hall_console.proofs.LineFacts.{split_after, open_more, ended_split, lines_open, command_first, no_command, quits_here, quits_later}
use Rattle.tac_hall_console.proofs.HeardFacts.{quit_told, quit_untold}
use Rattle.tac_hall_console.proofs.GoingFacts.{goes_then, goes_line, quits_ended_now, ends_none, ends_quit, ends_memory, ends_before, ends_after_ended}

-- what of a piece was gone through, where this has begun of a line and this is the rest
module _ {J V : Type 0} {hears : V → Typing → V → Type 0} {opening : Opening} (start piece begun rest : List ℕ) (was mid : Scene J V) (g : GoesOn hears opening (start ++ piece) (begun ++ rest) was mid) where
  -- there is no memory for the line
  pub took_memory : (result : Result Went OperatorFault) (next : List ℕ) → IsErrAnd result (λ fault. fault ≡ faults.Memory) → Took hears opening result start piece next was mid
  took_memory (Ok went) next is = absurd is
  took_memory (Err fault) next is =
      rw is (tt, ends_after_ended (start ++ piece) (begun ++ rest) was mid g (Err faults.Memory) [] mid (ends_memory (commands (ended_lines (begun ++ rest))) mid))

  -- no line ends in the rest
  pub took_on : (next : List ℕ) → next ≡ begun ++ rest → IsOpen begun → split_at_first 10 rest ≡ None → Took hears opening (Ok On) start piece next was mid
  took_on next is opens none = rw is (open_more begun rest opens none, g)

  module _ (front after : List ℕ) (opens : IsOpen begun) (parts : split_at_first 10 rest ≡ Some (front, after)) where
    whole : split_at_first 10 (begun ++ rest) ≡ Some (begun ++ front, after)
    whole = split_after begun rest front after opens parts

    -- the line that ends there is `quit`, and the witness was told of it
    pub took_quit : (next : List ℕ) (console : Console J) (witness : V) → is_quit (begun ++ front) ≡ true → console ≡ mid.console → hears mid.witness (unanswered (begun ++ front)) witness
        → Took hears opening (Ok Quits) start piece next was (scene console witness mid.written)
    took_quit next console witness quit same heard =
        let now = scene console witness mid.written in
        let quits_left : quits (ended_lines (begun ++ rest)) ≡ true = ap quits (ended_split (begun ++ rest) (begun ++ front) after whole) ∙ quits_here (begun ++ front) (ended_lines after) quit in
        let quits_all : quits (ended_lines (start ++ piece)) ≡ true = quits_ended_now (start ++ piece) (begun ++ rest) was mid g ∙ quits_left in (
          quits_all,
          subst (λ (t : List Typing). EndsAt hears opening (Ok tt) (commands (ended_lines (start ++ piece))) t was now) (sym (quit_told (ended_lines (start ++ piece)) quits_all))
              (ends_after_ended (start ++ piece) (begun ++ rest) was mid g (Ok tt) (unanswered (codes "quit") ∷ []) now
              (subst (λ (l : List (List ℕ)). EndsAt hears opening (Ok tt) l (unanswered (codes "quit") ∷ []) mid now)
              (sym (ap commands (ended_split (begun ++ rest) (begun ++ front) after whole) ∙ no_command (begun ++ front) (ended_lines after) quit))
              (ends_quit (begun ++ front) mid console witness quit same heard))),
        )

    module _ (other : is_quit (begun ++ front) ≡ false) (now : Scene J V) where
      -- it is answered
      pub took_line : Answers hears opening (Ok tt) (begun ++ front) mid now → GoesOn hears opening (start ++ piece) after was now
      took_line a = goes_then (start ++ piece) (begun ++ rest) was mid g after now (goes_line (begun ++ rest) (begun ++ front) after mid now whole other a.1 a.2)

      -- it fails there
      took_fault : (fault : OperatorFault) (next : List ℕ) → Answers hears opening (Err fault) (begun ++ front) mid now → Took hears opening (Err fault) start piece next was now
      took_fault fault next a = (
        a.0,
        ends_after_ended (start ++ piece) (begun ++ rest) was mid g (Err fault) [] now
            (subst (λ (l : List (List ℕ)). EndsAt hears opening (Err fault) l [] mid now)
            (sym (ap commands (ended_split (begun ++ rest) (begun ++ front) after whole) ∙ command_first (begun ++ front) (ended_lines after) other))
            (ends_before fault ((begun ++ front) ∷ []) (commands (ended_lines after)) mid now a.0 a.2)),
      )

      pub took_fault_as : (result : Result Went OperatorFault) (fault : OperatorFault) (next : List ℕ) → IsErrAnd result (λ end. end ≡ fault) → Answers hears opening (Err fault) (begun ++ front) mid now
          → Took hears opening result start piece next was now
      took_fault_as (Ok went) fault next is a = absurd is
      took_fault_as (Err same) fault next is a = rw is (took_fault fault next a)

-- whether a line is `quit`, where it is shown by a slice of what is kept
pub is_quit-shown : (shown kept line : List ℕ) (answer : Bool) → shown ≡ kept → kept ≡ line → answer ≡ is_quit shown → is_quit line ≡ answer
is_quit-shown shown kept line answer same is e = ap is_quit (sym (same ∙ is)) ∙ sym e

-- ---- the end of the input

pub none_of : (n : ℕ) → eqb n 0 ≡ true → n ≡ 0
none_of n e = eqb-true n 0 e

pub some_of : (n : ℕ) → eqb n 0 ≡ false → 0 < n
some_of zero e = absurd cc
some_of (suc n) e = omega arith

-- nothing has begun of a line: the input ends there
pub last_none : {J V : Type 0} {hears : V → Typing → V → Type 0} {opening : Opening} (begun : List ℕ) (was : Scene J V) → begun ≡ [] → EndsAt hears opening (Ok tt) (commands (lines_of begun)) (quit_of (lines_of begun)) was was
last_none begun was none = rw none (ends_none was)

-- what has begun says `quit`, and the witness was told of it
pub last_quit : {J V : Type 0} {hears : V → Typing → V → Type 0} {opening : Opening} (begun : List ℕ) (was : Scene J V) (console : Console J) (witness : V) → IsOpen begun → is_quit begun ≡ true → console ≡ was.console
    → hears was.witness (unanswered begun) witness → EndsAt hears opening (Ok tt) (commands (lines_of begun)) (quit_of (lines_of begun)) was (scene console witness was.written)
last_quit [] was console witness opens quit same heard = absurd cc
last_quit (byte ∷ bytes) was console witness opens quit same heard =
    rw (
      lines_open byte bytes opens,
      no_command (byte ∷ bytes) [] quit,
      quit_told ((byte ∷ bytes) ∷ []) (quits_here (byte ∷ bytes) [] quit),
    )
    (ends_quit (byte ∷ bytes) was console witness quit same heard)

-- it is another line
pub last_line : {J V : Type 0} {hears : V → Typing → V → Type 0} {opening : Opening} (end : Result (Unit {0}) OperatorFault) (begun : List ℕ) (was now : Scene J V) → 0 < length begun → IsOpen begun → is_quit begun ≡ false
    → EndsAt hears opening end (begun ∷ []) [] was now → EndsAt hears opening end (commands (lines_of begun)) (quit_of (lines_of begun)) was now
last_line end [] was now some opens other e = absurd (omega arith)
last_line end (byte ∷ bytes) was now some opens other e =
    rw (
      lines_open byte bytes opens,
      command_first (byte ∷ bytes) [] other,
      quit_untold ((byte ∷ bytes) ∷ []) (quits_later (byte ∷ bytes) [] other),
    )
    e
