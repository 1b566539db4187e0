-- What came of another policy.
use Rattle.std.proofs.Common.{◌≡◌, ℕ, true, false, List, ◌++◌, Some, None, Result, Ok, Err, OnOk, inl, inr, refl, is_ok, if◌then◌else◌}
use Rattle.pol_text.specs.declared.subject.Subject.{Subject}
use Rattle.tac_hall.specs.Room.{Opening}
use Rattle.tac_hall.specs.Seat.{Seated, IsMade, IsRefused, CatchesUp}
use Rattle.tac_hall.specs.declared.call.Call.TheVariants as calls
use Rattle.tac_hall.specs.declared.receipt.Receipt.{Receipt}
use Rattle.tac_hall.specs.declared.fault.HallFault.{HallFault}
use Rattle.tac_hall.specs.View.{made_of}
use Rattle.tac_hall_console.specs.Operated.{Outcome, Reads, Unloads, IsReload, Replaces, policy_question, policy_in, made, refused, replied, barred, loaded, unloaded}
use Rattle.tac_hall_console.specs.Users.{turnover, shuts_out}

-- a line was added, where there was room for it
pub added : {E : Type 0} (result : Result (Unit {0}) E) (old new line : List ℕ) → new ≡ if is_ok result then old ++ line else old → OnOk result (new ≡ old ++ line)
added (Ok u) old new line e = e
added (Err fault) old new line e = tt

module _ (opening : Opening) (was : Seated) where
  -- a policy was called for
  pub loads : (policy : List Subject) → Reads (Ok policy) → (outcome : Outcome) (now : Seated) → Replaces opening was policy outcome now → IsReload opening was outcome now
  loads policy read outcome now came = inl (policy, read, came)

  -- there was none to call for
  pub unloads : (line : List ℕ) → Unloads line → IsReload opening was (replied line) was
  unloads line why = inr (line, why, refl, refl)

  -- ---- the question for the present policy

  module _ (new : List Subject) where
    pub unasked : (fault : HallFault) (now : Seated) → IsRefused opening now policy_question fault → CatchesUp was now → Replaces opening was new (refused fault) now
    unasked fault now so caught = (so, caught)

    module _ (asked : Receipt) (mid : Seated) (is : IsMade opening was policy_question asked mid) where
      pub unlearnt : policy_in asked.answer ≡ None → Replaces opening was new (made (made_of policy_question asked)) mid
      unlearnt none = ((asked, refl, is), none)

      module _ (old : List Subject) (some : policy_in asked.answer ≡ Some old) where
        pub bars : shuts_out (turnover old new) ≡ true → Replaces opening was new (barred (made_of policy_question asked)) mid
        bars shuts = (old, ((asked, refl, is), some), shuts)

        pub called : (receipt : Receipt) (now : Seated) → shuts_out (turnover old new) ≡ false → IsMade opening mid (calls.Load new) receipt now
            → Replaces opening was new (loaded old (made_of policy_question asked) (made_of (calls.Load new) receipt)) now
        called receipt now stays so = (mid, ((asked, refl, is), some), stays, (receipt, refl, so))

        pub uncalled : (fault : HallFault) (now : Seated) → shuts_out (turnover old new) ≡ false → IsRefused opening now (calls.Load new) fault → CatchesUp mid now
            → Replaces opening was new (unloaded (made_of policy_question asked) fault) now
        uncalled fault now stays so caught = (old, mid, ((asked, refl, is), some), stays, (so, caught))
