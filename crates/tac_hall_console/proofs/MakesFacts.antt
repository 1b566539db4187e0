-- What calls and rotations leave of the seat.
use Rattle.std.proofs.Common.{◌≡◌, ℕ, Bool, true, false, List, [], ◌∷◌, ◌++◌, Option, inl, inr, refl, sym, ap, subst, ◌∙◌, append-nil, append_assoc}
use Rattle.std.specs.Prelude.{MatchBool}
use Rattle.std.proofs.lemmas.Grind.{flat_map-append}
use Rattle.std.proofs.lemmas.List.Elements.{filter_map-append}
use Rattle.pol_text.specs.declared.subject.Subject.{Subject}
use Rattle.pol_edit.specs.declared.edit.Edit.{Edit}
use Rattle.tac_console.specs.Batching.{action_of}
use Rattle.tac_console.specs.ConsoleText.{asked_by}
use Rattle.tac_console.specs.declared.batching.Action.{Action}
use Rattle.tac_console.specs.declared.batching.Action.TheVariants as actions
use Rattle.tac_hall.specs.History.{view_of}
use Rattle.tac_hall.specs.Room.{Opening}
use Rattle.tac_hall.specs.History as history
use Rattle.tac_hall.specs.Seat.{Seated, CatchesUp}
use Rattle.tac_hall.specs.declared.limits.Rotated.{Rotated}
use Rattle.tac_hall.specs.declared.call.Call.{Call}
use Rattle.tac_hall.specs.declared.call.Call.TheVariants as calls
use Rattle.tac_hall.specs.View.{Made}
use Rattle.tac_hall_console.specs.Commands.{is_rotate, is_reload, is_reload_devices}
use Rattle.tac_hall_console.specs.Operated.{Outcome, CallsFor, ComesTo, IsRotation, IsReload, IsDevicesReload, LineComesTo, CameTo, Makes, noticed, made, rotated, refused, replied, barred, loaded, unloaded, batch_by, entries_by, rotation_of, entries_of, rotations_of, Replaces, policy_question}

-- nothing was done
makes_none : (was : Seated) → Makes was was [] []
makes_none was = record { number = refl; view = sym (append-nil (view_of was.number was.seen)); rotations = sym (append-nil (history.rotations_of was.number was.seen)) }

makes_same : (was now : Seated) → now ≡ was → Makes was now [] []
makes_same was now same = rw same (makes_none was)

-- others alone did something
makes_caught : (was now : Seated) → CatchesUp was now → Makes was now [] []
makes_caught was now caught = record {
  number = caught.number;
  view = caught.view ∙ sym (append-nil (view_of was.number was.seen));
  rotations = caught.rotations ∙ sym (append-nil (history.rotations_of was.number was.seen));
}

-- some things were done, and then others
pub makes_then : (was mid now : Seated) (outcomes others : List Outcome) → Makes was mid (entries_of outcomes) (rotations_of outcomes) → Makes mid now (entries_of others) (rotations_of others)
    → Makes was now (entries_of (outcomes ++ others)) (rotations_of (outcomes ++ others))
makes_then was mid now outcomes others a b = record {
  number = b.number ∙ a.number;
  view =
      (rw a.number at b.view) ∙ ap (λ (v : List Made). v ++ entries_of others) a.view ∙ append_assoc (view_of was.number was.seen) (entries_of outcomes) (entries_of others)
      ∙ ap (λ (v : List Made). view_of was.number was.seen ++ v) (sym (flat_map-append entries_by outcomes others));
  rotations =
      (rw a.number at b.rotations) ∙ ap (λ (l : List Rotated). l ++ rotations_of others) a.rotations ∙ append_assoc (history.rotations_of was.number was.seen) (rotations_of outcomes) (rotations_of others)
      ∙ ap (λ (l : List Rotated). history.rotations_of was.number was.seen ++ l) (sym (filter_map-append rotation_of outcomes others));
}

module _ (opening : Opening) where
  -- a call
  pub call_makes : (was now : Seated) (call : Call) (outcome : Outcome) → CallsFor opening was call outcome now → Makes was now (entries_of (outcome ∷ [])) (rotations_of (outcome ∷ []))
  call_makes was now call (noticed notice) came = absurd came
  call_makes was now call (made entry) came =
      subst (λ (e : Made). Makes was now (e ∷ []) []) (sym came.1)
      (record { number = came.2.number; view = came.2.view; rotations = came.2.rotations ∙ sym (append-nil (history.rotations_of was.number was.seen)) })
  call_makes was now call (rotated rotation) came = absurd came
  call_makes was now call (refused fault) came = makes_caught was now came.1
  call_makes was now call (replied line) came = absurd came
  call_makes was now call (barred asked) came = absurd came
  call_makes was now call (loaded old asked entry) came = absurd came
  call_makes was now call (unloaded asked fault) came = absurd came

  rotation_makes : (was now : Seated) (outcome : Outcome) → IsRotation opening was outcome now → Makes was now (entries_of (outcome ∷ [])) (rotations_of (outcome ∷ []))
  rotation_makes was now (noticed notice) came = absurd came
  rotation_makes was now (made entry) came = absurd came
  rotation_makes was now (rotated rotation) came = record { number = came.number; view = came.view ∙ sym (append-nil (view_of was.number was.seen)); rotations = came.rotations }
  rotation_makes was now (refused fault) came = makes_caught was now came.1
  rotation_makes was now (replied line) came = absurd came
  rotation_makes was now (barred asked) came = absurd came
  rotation_makes was now (loaded old asked entry) came = absurd came
  rotation_makes was now (unloaded asked fault) came = absurd came

  -- another policy, after the question for the present one
  replacing_makes : (was now : Seated) (new : List Subject) (outcome : Outcome) → Replaces opening was new outcome now → Makes was now (entries_of (outcome ∷ [])) (rotations_of (outcome ∷ []))
  replacing_makes was now new (noticed notice) came = absurd came
  replacing_makes was now new (made asked) came = call_makes was now policy_question (made asked) came.0
  replacing_makes was now new (rotated rotation) came = absurd came
  replacing_makes was now new (refused fault) came = call_makes was now policy_question (refused fault) came
  replacing_makes was now new (replied line) came = absurd came
  replacing_makes was now new (barred asked) came = call_makes was now policy_question (made asked) came.1.0
  replacing_makes was now new (loaded old asked entry) came =
      makes_then was came.0 now (made asked ∷ []) (made entry ∷ []) (call_makes was came.0 policy_question (made asked) came.1.0) (call_makes came.0 now (calls.Load new) (made entry) came.3)
  replacing_makes was now new (unloaded asked fault) came =
      makes_then was came.1 now (made asked ∷ []) (refused fault ∷ []) (call_makes was came.1 policy_question (made asked) came.2.0) (call_makes came.1 now (calls.Load new) (refused fault) came.4)

  reload_makes : (was now : Seated) (outcome : Outcome) → IsReload opening was outcome now → Makes was now (entries_of (outcome ∷ [])) (rotations_of (outcome ∷ []))
  reload_makes was now outcome (inl came) = replacing_makes was now came.0 outcome came.2
  reload_makes was now outcome (inr none) = rw none.2 (makes_same was now none.3)

  devices_makes : (was now : Seated) (outcome : Outcome) → IsDevicesReload was outcome now → Makes was now (entries_of (outcome ∷ [])) (rotations_of (outcome ∷ []))
  devices_makes was now outcome came = rw came.2 (makes_same was now came.3)

  action_makes : (was now : Seated) (action : Action) (outcome : Outcome) → ComesTo opening was action outcome now → Makes was now (entries_of (outcome ∷ [])) (rotations_of (outcome ∷ []))
  action_makes was now (actions.Edit edit) outcome came = call_makes was now (calls.Edit edit) outcome came
  action_makes was now (actions.Commit edits) outcome came = call_makes was now (calls.Batch edits) outcome came
  action_makes was now (actions.Query query) outcome came = call_makes was now (calls.Query query) outcome came
  action_makes was now (actions.Tell notice) outcome came = rw came.0 (makes_same was now came.1)

  either : {A B C : Type 0} (is : Bool) → (A → C) → (B → C) → MatchBool is A B → C
  either true first second m = first m
  either false first second m = second m

  line_makes : (batch : Option (List Edit)) (was now : Seated) (line : List ℕ) (outcome : Outcome) → LineComesTo opening batch was line outcome now → Makes was now (entries_of (outcome ∷ [])) (rotations_of (outcome ∷ []))
  line_makes batch was now line outcome came =
      either (is_rotate line) (rotation_makes was now outcome)
      (either (is_reload line) (reload_makes was now outcome)
      (either (is_reload_devices line) (devices_makes was now outcome) (action_makes was now (action_of batch (asked_by line)) outcome))) came

  -- lines, one after another
  pub came_makes : (batch : Option (List Edit)) (was now : Seated) (lines : List (List ℕ)) (outcomes : List Outcome) → CameTo opening batch was lines outcomes now → Makes was now (entries_of outcomes) (rotations_of outcomes)
  came_makes batch was now [] [] came = makes_same was now came
  came_makes batch was now [] (outcome ∷ outcomes) came = absurd came
  came_makes batch was now (line ∷ lines) [] came = absurd came
  came_makes batch was now (line ∷ lines) (outcome ∷ outcomes) came =
      makes_then was came.0 now (outcome ∷ []) outcomes (line_makes batch was came.0 line outcome came.1) (came_makes (batch_by batch line) came.0 now lines outcomes came.2)
