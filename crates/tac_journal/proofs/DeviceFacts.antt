-- What the log of a connection is once notices were told, one after another.
use Rattle.std.proofs.Common.{◌≡◌, ℕ, List, [], ◌∷◌, ◌++◌, Option, None, Some, Result, Ok, Err, refl, ap, ◌∙◌, inl, inr, subst}
use Rattle.std.specs.Prelude.{option_to_list}
use Rattle.std.specs.Global.{Vec}
use Rattle.tac_audit.specs.declared.event.Origin.{Origin}
use Rattle.tac_audit.specs.declared.notice.Notice.{Notice}
use Rattle.tac_audit.specs.declared.witness.Refused.{Refused}
use Rattle.tac_audit.specs.Told.{Noted}
use Rattle.tac_audit.specs.Event.{line_of}
use Rattle.tac_audit.specs.Noted.{event_of, noted_of, noted_of_each}
use Rattle.tac_audit.specs.Witness.{AreTold}
use Rattle.tac_journal.specs.Lines.{IsLineAt}
use Rattle.tac_journal.specs.Logged.{IsLogged}
use Rattle.tac_journal.specs.Device.{HasLine, HasLines, HasLinesButLast, LacksLine, IsNoted, Place, Takes, Refuses}

-- nothing was noted, and nothing appended
pub none_at : {S : Type 0} (takes : S → List ℕ → S → Type 0) (origin : Origin) (time : List ℕ) (noted : Option Noted) (old : S) → IsLineAt time origin noted None → HasLine takes origin noted old old
none_at takes origin time None old made = refl
none_at takes origin time (Some noted) old made = absurd made

-- no line came to the log
pub lacks : {S : Type 0} (refuses : S → List ℕ → S → Type 0) (origin : Origin) (noted : Option Noted) (old : S) → LacksLine refuses origin noted old old
lacks refuses origin None old = refl
lacks refuses origin (Some noted) old = inl refl

module _ {S : Type 0} (takes refuses : S → List ℕ → S → Type 0) where
  -- a line that was made for this time was taken, or refused
  noted_at : (result : Result (Unit {0}) Refused) (origin : Origin) (time : List ℕ) (noted : Noted) (old new : S)
      → IsLogged takes refuses result (line_of (event_of (Some time) origin noted)) old new → IsNoted takes refuses result origin (Some noted) old new
  noted_at (Ok done) origin time noted old new logged = (line_of (event_of (Some time) origin noted), (time, refl), logged)
  noted_at (Err refused) origin time noted old new (inl same) = inl same
  noted_at (Err refused) origin time noted old new (inr untaken) = inr (line_of (event_of (Some time) origin noted), (time, refl), untaken)

  pub logged_at : (result : Result (Unit {0}) Refused) (origin : Origin) (time : List ℕ) (noted : Option Noted) (line : Vec ℕ) (old new : S) → IsLineAt time origin noted (Some line)
      → ((wanted : List ℕ) → line.items ≡ wanted → IsLogged takes refuses result wanted old new) → IsNoted takes refuses result origin noted old new
  logged_at result origin time None line old new made logged = absurd made
  logged_at result origin time (Some noted) line old new made logged = noted_at result origin time noted old new (logged _ made)

  -- one line, and then those of the others
  line_and : (origin : Origin) (noted : Option Noted) (more : List Noted) (old mid new : S) → HasLine takes origin noted old mid → HasLines takes origin more mid new
      → HasLines takes origin (option_to_list noted ++ more) old new
  line_and origin None more old mid new line rest = rw (← line) rest
  line_and origin (Some one) more old mid new line rest = (line.0 ∷ rest.0, (line.1, rest.1), (mid, line.2, rest.2))

module _ {W S : Type 0} (place : W → Place S) (takes refuses : S → List ℕ → S → Type 0) where
  abbrev Step : W → Notice → W → Type 0
  Step was notice now = Takes takes (place was) notice (place now)

  pub all_lines : (notices : List Notice) (was now : W) → AreTold Step was notices now → HasLines takes (place was).origin (noted_of_each notices) (place was).log (place now).log
  all_lines [] was now told = ([], tt, ap (λ (w : W). (place w).log) told)
  all_lines (notice ∷ notices) was now told =
      let mid : W = told.0 in
      let step : Takes takes (place was) notice (place mid) = told.1 in
      let rest = all_lines notices mid now told.2 in
      let same : HasLines takes (place was).origin (noted_of_each notices) (place mid).log (place now).log = rw (← step.origin) rest in
      line_and takes refuses (place was).origin (noted_of notice) _ (place was).log (place mid).log (place now).log step.line same

  all_same : (notices : List Notice) (was now : W) → AreTold Step was notices now → (place now).origin ≡ (place was).origin
  all_same [] was now told = ap (λ (w : W). (place w).origin) told
  all_same (notice ∷ notices) was now told = all_same notices told.0 now told.2 ∙ told.1.origin

  -- .. of which the last is refused
  pub lines_but_last : (notices : List Notice) (notice : Notice) (was then now : W) → AreTold Step was notices then → Refuses refuses (place then) notice (place now)
      → HasLinesButLast takes refuses (place was).origin (noted_of_each notices) (noted_of notice) (place was).log (place now).log
  lines_but_last notices notice was then now told refused =
      ((place then).log, all_lines notices was then told, rw (all_same notices was then told) at refused)
