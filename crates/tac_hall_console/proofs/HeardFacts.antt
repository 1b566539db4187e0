-- What a witness was told of lines.
use Rattle.std.proofs.Common.{◌≡◌, ℕ, true, false, List, [], ◌∷◌, ◌++◌, Option, Result, Ok, Err, inl, inr, refl, sym, ap, subst, ◌∙◌, append_assoc}
use Rattle.std.specs.Prelude.{codes}
use Rattle.std.proofs.lemmas.Slice.Eq.{bytes_eq-Decides}
use Rattle.pol_edit.specs.declared.edit.Edit.{Edit}
use Rattle.tac_audit.specs.Witness.{AreTold}
use Rattle.tac_audit.specs.declared.notice.Typing.{Typing}
use Rattle.tac_hall.specs.Room.{Opening}
use Rattle.tac_hall.specs.Seat.{Seated}
use Rattle.tac_hall_console.specs.declared.fault.OperatorFault.{OperatorFault}
use Rattle.tac_hall_console.specs.declared.fault.OperatorFault.TheVariants as faults
use Rattle.tac_hall_console.specs.Commands.{is_quit, quits}
use Rattle.tac_hall_console.specs.Operated.{Outcome, batch_by, told, CameTo, typings_of, unanswered, quit_of, AreTypingsOf}

-- it was told some things, and then others
pub heard_then : {V T : Type 0} (hears : V → T → V → Type 0) (was mid now : V) (notices later : List T) → AreTold hears was notices mid → AreTold hears mid later now → AreTold hears was (notices ++ later) now
heard_then {V} hears was mid now [] later a b = subst (λ (v : V). AreTold hears v later now) a b
heard_then hears was mid now (notice ∷ notices) later a b = (a.0, a.1, heard_then hears a.0 mid now notices later a.2 b)

-- ---- what is told of lines

-- of some lines, and then of others
pub typings_append : (opening : Opening) (batch : Option (List Edit)) (was now : Seated) (lines : List (List ℕ)) (outcomes : List Outcome) (later : List (List ℕ)) (others : List Outcome) → CameTo opening batch was lines outcomes now
    → typings_of (lines ++ later) (outcomes ++ others) ≡ typings_of lines outcomes ++ typings_of later others
typings_append opening batch was now [] [] later others came = refl
typings_append opening batch was now [] (outcome ∷ outcomes) later others came = absurd came
typings_append opening batch was now (line ∷ lines) [] later others came = absurd came
typings_append opening batch was now (line ∷ lines) (outcome ∷ outcomes) later others came =
    ap (λ (t : List Typing). record { line = line; answer = told outcome } ∷ t) (typings_append opening (batch_by batch line) came.0 now lines outcomes later others came.2)

-- and then of a last one
last_append : (first later last typings all : List Typing) → typings ≡ later ++ last → all ≡ first ++ later → first ++ typings ≡ all ++ last
last_append first later last typings all e is = ap (λ (t : List Typing). first ++ t) e ∙ sym (append_assoc first later last) ∙ ap (λ (t : List Typing). t ++ last) (sym is)

module _ (opening : Opening) (batch : Option (List Edit)) (was now : Seated) (lines : List (List ℕ)) (outcomes : List Outcome) (came : CameTo opening batch was lines outcomes now) where
  -- after lines that were answered
  pub tells_after : (end : Result (Unit {0}) OperatorFault) (answered left : List (List ℕ)) (others : List Outcome) (last typings : List Typing) → AreTypingsOf end answered left others last typings
      → AreTypingsOf end (lines ++ answered) left (outcomes ++ others) last (typings_of lines outcomes ++ typings)
  tells_after (Ok _) answered left others last typings t =
      last_append (typings_of lines outcomes) (typings_of answered others) last typings _ t (typings_append opening batch was now lines outcomes answered others came)
  tells_after (Err faults.ReadFault) answered left others last typings t =
      ap (λ (t : List Typing). typings_of lines outcomes ++ t) t ∙ sym (typings_append opening batch was now lines outcomes answered others came)
  tells_after (Err faults.WriteFault) answered left others last typings t =
      ap (λ (t : List Typing). typings_of lines outcomes ++ t) t ∙ sym (typings_append opening batch was now lines outcomes answered others came)
  tells_after (Err faults.Memory) answered left others last typings (inl t) =
      inl (ap (λ (t : List Typing). typings_of lines outcomes ++ t) t ∙ sym (typings_append opening batch was now lines outcomes answered others came))
  tells_after (Err faults.Memory) answered left others last typings (inr (inl t)) =
      inr (inl (
        t.0,
        t.1,
        t.2,
        last_append (typings_of lines outcomes) (typings_of answered others) (unanswered t.0 ∷ []) typings _ t.3 (typings_append opening batch was now lines outcomes answered others came),
      ))
  tells_after (Err faults.Memory) answered left others last typings (inr (inr t)) =
      inr (inr (
        lines ++ t.0,
        t.1,
        ap (λ (l : List (List ℕ)). lines ++ l) t.2 ∙ sym (append_assoc lines t.0 (t.1 ∷ [])),
        last_append (typings_of lines outcomes) (typings_of t.0 others) (unanswered t.1 ∷ []) typings _ t.3 (typings_append opening batch was now lines outcomes t.0 others came),
      ))

-- a fault leaves later lines too, and nothing is told of them
pub tells_before : (fault : OperatorFault) (answered left later : List (List ℕ)) (outcomes : List Outcome) (last other typings : List Typing) → AreTypingsOf (Err fault) answered left outcomes last typings
    → AreTypingsOf (Err fault) answered (left ++ later) outcomes other typings
tells_before faults.ReadFault answered left later outcomes last other typings t = t
tells_before faults.WriteFault answered left later outcomes last other typings t = t
tells_before faults.Memory answered left later outcomes last other typings (inl t) = inl t
tells_before faults.Memory answered left later outcomes last other typings (inr (inl t)) = inr (inl (t.0, t.1 ++ later, ap (λ (l : List (List ℕ)). l ++ later) t.2, t.3))
tells_before faults.Memory answered left later outcomes last other typings (inr (inr t)) = inr (inr t)

-- ---- of `quit`

pub quit_is : (line : List ℕ) → is_quit line ≡ true → line ≡ codes "quit"
quit_is line quit = (bytes_eq-Decides line (codes "quit")).0 quit

pub quit_told : (lines : List (List ℕ)) → quits lines ≡ true → quit_of lines ≡ unanswered (codes "quit") ∷ []
quit_told lines quit = rw quit refl

pub quit_untold : (lines : List (List ℕ)) → quits lines ≡ false → quit_of lines ≡ []
quit_untold lines other = rw other refl
