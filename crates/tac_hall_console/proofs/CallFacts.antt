-- What came of a call, or of a line, and how it is told.
use Rattle.std.proofs.Common.{◌≡◌, ℕ, Bool, true, false, List, [], ◌++◌, Option, Result, Ok, Err, IfOk, IfErr, OnOk, OnErr, IsErrAnd, refl, sym, ap, subst, ◌∙◌, inl, inr}
use Rattle.std.specs.Prelude.{MatchBool}
use Rattle.std.proofs.KnownBytes.{Appends-nil}
use Rattle.pol_edit.specs.declared.edit.Edit.{Edit}
use Rattle.tac_console.specs.Batching.{action_of}
use Rattle.tac_console.specs.ConsoleText.{asked_by}
use Rattle.tac_hall.specs.Room.{Opening}
use Rattle.tac_hall.specs.Seat.{Seated, IsMade, IsRefused, CatchesUp}
use Rattle.tac_hall.specs.declared.call.Call.TheVariants as calls
use Rattle.tac_hall.specs.declared.receipt.Receipt.{Receipt}
use Rattle.tac_hall.specs.declared.fault.HallFault.{HallFault}
use Rattle.tac_hall.specs.View.{made_of}
use Rattle.tac_hall_console.specs.declared.fault.OperatorFault.{OperatorFault}
use Rattle.tac_hall_console.specs.declared.fault.OperatorFault.TheVariants as faults
use Rattle.tac_hall_console.specs.Commands.{is_rotate, is_reload, is_reload_devices}
use Rattle.tac_hall_console.specs.Operated.{Outcome, ComesTo, IsRotation, IsReload, IsDevicesReload, TellsOfDevices, StopComesTo, LineComesTo, StopEnds, made, refused, replied, told, refusal_line}
use Rattle.tac_hall_console.specs.Operating.{Tells, Adds, IsUntold, SendsUnlessMemory, Stops}

-- ---- what is told of it

pub tells_ok : {E : Type 0} (may : Outcome → Seated → Type 0) (outcome : Outcome) (now : Seated) (old new : List ℕ) (result : Result (Unit {0}) E) → may outcome now → OnOk result (new ≡ old ++ told outcome)
    → OnOk result (Adds may now old new)
tells_ok may outcome now old new (Ok u) came e = (told outcome, e, record { outcome = outcome; came = came; is = refl })
tells_ok may outcome now old new (Err fault) came e = tt

pub tells_err : {E : Type 0} (may : Outcome → Seated → Type 0) (outcome : Outcome) (was now : Seated) (result : Result (Unit {0}) E) → may outcome now → OnErr result (IsUntold may was now)
tells_err may outcome was now (Ok u) came = tt
tells_err may outcome was now (Err fault) came = inr (outcome, came)

-- a text that was empty
pub tells_added : (may : Outcome → Seated → Type 0) (now : Seated) (old new : List ℕ) → old ≡ [] → Adds may now old new → Tells may now new
tells_added may now old new empty a = subst (Tells may now) (sym (a.1 ∙ ap (λ (o : List ℕ). o ++ a.0) empty)) a.2

-- what may come of the one thing may come of the other
module _ (may also : Outcome → Seated → Type 0) (as_well : (outcome : Outcome) (now : Seated) → may outcome now → also outcome now) where
  pub adds_as : {E : Type 0} (now : Seated) (old new : List ℕ) (result : Result (Unit {0}) E) → OnOk result (Adds may now old new) → OnOk result (Adds also now old new)
  adds_as now old new (Ok u) a = (a.0, a.1, record { outcome = a.2.outcome; came = as_well a.2.outcome now a.2.came; is = a.2.is })
  adds_as now old new (Err fault) a = tt

  untold : (was now : Seated) → IsUntold may was now → IsUntold also was now
  untold was now (inl same) = inl same
  untold was now (inr c) = inr (c.0, as_well c.0 now c.1)

  pub untold_as : {E : Type 0} (was now : Seated) (result : Result (Unit {0}) E) → OnErr result (IsUntold may was now) → OnErr result (IsUntold also was now)
  untold_as was now (Ok u) a = tt
  untold_as was now (Err fault) a = untold was now a

module _ (opening : Opening) (batch : Option (List Edit)) (was now : Seated) (line text : List ℕ) where
  may_if : Bool → Bool → Bool → Outcome → Seated → Type 0
  may_if rotates reloads devices outcome then =
      MatchBool rotates (IsRotation opening was outcome then)
      (MatchBool reloads (IsReload opening was outcome then) (MatchBool devices (IsDevicesReload was outcome then) (ComesTo opening was (action_of batch (asked_by line)) outcome then)))

  -- of a line `rotate`
  pub tells_rotation : is_rotate line ≡ true → Tells (IsRotation opening was) now text → Tells (LineComesTo opening batch was line) now text
  unfolding may_if
  tells_rotation is t = subst (λ (b : Bool). Tells (may_if b (is_reload line) (is_reload_devices line)) now text) (sym is) t

  -- of a line `reload`
  pub tells_reload : is_rotate line ≡ false → is_reload line ≡ true → Tells (IsReload opening was) now text → Tells (LineComesTo opening batch was line) now text
  unfolding may_if
  tells_reload other is t =
      subst (λ (b : Bool). Tells (may_if b (is_reload line) (is_reload_devices line)) now text) (sym other) (subst (λ (b : Bool). Tells (may_if false b (is_reload_devices line)) now text) (sym is) t)

  -- of a line `reload devices`
  pub tells_devices : is_rotate line ≡ false → is_reload line ≡ false → is_reload_devices line ≡ true → now ≡ was → TellsOfDevices text → Tells (LineComesTo opening batch was line) now text
  unfolding may_if
  tells_devices other also is same t =
      subst (λ (b : Bool). Tells (may_if b (is_reload line) (is_reload_devices line)) now text) (sym other)
      (subst (λ (b : Bool). Tells (may_if false b (is_reload_devices line)) now text) (sym also)
      (subst (λ (b : Bool). Tells (may_if false false b) now text) (sym is)
      (record { outcome = replied text; came = (text, t, refl, same); is = refl })))

-- ---- the Stop

module _ (opening : Opening) where
  -- what came of it
  pub comes_of : (result : Result Receipt HallFault) (was now : Seated) → IfOk result (λ receipt. IsMade opening was calls.Stop receipt now) → OnErr result (CatchesUp was now) → IfErr result (IsRefused opening now calls.Stop)
      → (outcome : Outcome) × StopComesTo opening was outcome now
  comes_of (Ok receipt) was now is caught so = (made (made_of calls.Stop receipt), (receipt, refl, is))
  comes_of (Err fault) was now is caught so = (refused fault, (so, caught))

  -- the console has failed, and nothing is told
  pub stops_untold : (listened end : Result (Unit {0}) OperatorFault) (fault : OperatorFault) (was now : Seated) (old : Option (List ℕ)) → listened ≡ Err fault → IsErrAnd end (λ e. e ≡ fault)
      → (outcome : Outcome) × StopComesTo opening was outcome now → Stops opening listened end was now old old
  stops_untold listened (Ok u) fault was now old e is c = absurd is
  stops_untold listened (Err same) fault was now old e is c = rw e (record { stop = c.0; came = c.1; ends = (ap Err is, refl) })

  -- it was made
  pub stops_made : (listened : Result (Unit {0}) OperatorFault) (u : Unit {0}) (receipt : Receipt) (was now : Seated) (old : Option (List ℕ)) → listened ≡ Ok u → IsMade opening was calls.Stop receipt now
      → Stops opening listened (Ok tt) was now old old
  stops_made listened u receipt was now old e is = rw e (record { stop = made (made_of calls.Stop receipt); came = (receipt, refl, is); ends = Appends-nil old })

  -- it was refused
  refusal_ends : (end : Result (Unit {0}) OperatorFault) (fault : HallFault) (old new : Option (List ℕ)) → SendsUnlessMemory end (refusal_line fault) old new → StopEnds (Ok tt) end (refused fault) old new
  refusal_ends (Ok u) fault old new sent = sent
  refusal_ends (Err faults.ReadFault) fault old new sent = absurd sent
  refusal_ends (Err faults.WriteFault) fault old new sent = sent
  refusal_ends (Err faults.Memory) fault old new sent = (sent, tt)

  pub stops_refused : (listened end : Result (Unit {0}) OperatorFault) (u : Unit {0}) (fault : HallFault) (was now : Seated) (old new : Option (List ℕ)) → listened ≡ Ok u → CatchesUp was now → IsRefused opening now calls.Stop fault
      → SendsUnlessMemory end (refusal_line fault) old new → Stops opening listened end was now old new
  stops_refused listened end u fault was now old new e caught so sent = rw e (record { stop = refused fault; came = (so, caught); ends = refusal_ends end fault old new sent })
