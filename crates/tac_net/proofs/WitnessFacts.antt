-- What a witness tells a log that may have none.
use Rattle.std.proofs.Common.{◌≡◌, inl, List, [], ◌∷◌, false, Option, None, Some, refl, sym, subst}
use Rattle.tac_audit.specs.declared.event.Named.{Named}
use Rattle.tac_audit.specs.declared.notice.Notice.{Notice}
use Rattle.tac_audit.specs.Witness.{AreTold}
use Rattle.tac_journal.specs.Log.{Keeping}
use Rattle.tac_net.specs.Connections.{TellsLog}
use Rattle.tac_net.specs.Witness.{TakesBy, RefusesBy}

module _ {D W : Type 0} (log_of : D → Option W) (takes refuses : W → Notice → W → Type 0) where
  abbrev Takes : D → Notice → D → Type 0
  Takes was notice now = TakesBy takes (log_of was) notice (log_of now)

  abbrev Refuses : D → Notice → D → Type 0
  Refuses was notice now = RefusesBy refuses (log_of was) notice (log_of now)

  -- ---- with a log

  takes_some : (was : W) (notice : Notice) (now : Option W) → TakesBy takes (Some was) notice now → (then : W) × (now ≡ Some then) × takes was notice then
  takes_some was notice (Some then) t = (then, refl, t)
  takes_some was notice None t = absurd t

  refuses_some : (was : W) (notice : Notice) (now : Option W) → RefusesBy refuses (Some was) notice now → (then : W) × (now ≡ Some then) × refuses was notice then
  refuses_some was notice (Some then) t = (then, refl, t)
  refuses_some was notice None t = absurd t

  told_some : (w : W) (was : D) (told : List Notice) (now : D) → log_of was ≡ Some w → AreTold Takes was told now → (then : W) × (log_of now ≡ Some then) × AreTold takes w told then
  told_some w was [] now is t = (w, subst (λ (d : D). log_of d ≡ Some w) (sym t) is, refl)
  told_some w was (notice ∷ told) now is t =
      let one = takes_some w notice (log_of t.0) (subst (λ (o : Option W). TakesBy takes o notice (log_of t.0)) is t.1) in
      let more = told_some one.0 t.0 told now one.1 t.2 in
      (more.0, more.1, (one.0, one.2, more.2))

  pub tells_some : (log : Keeping) (who : Option Named) (w : W) (was : D) → log_of was ≡ Some w → TellsLog takes refuses log who w → TellsLog Takes Refuses log who was
  tells_some log who w was is tells = record {
    logged = λ told now t. let all = told_some w was told now is t in tells.logged told all.0 all.2;
    refused = λ told between now notice t r.
        let all = told_some w was told between is t in
        let last = refuses_some all.0 notice (log_of now) (subst (λ (o : Option W). RefusesBy refuses o notice (log_of now)) all.1 r) in
        tells.refused told all.0 last.0 notice all.2 last.2;
  }

  -- ---- without one

  takes_none : (notice : Notice) (now : Option W) → TakesBy takes None notice now → now ≡ None
  takes_none notice None t = refl
  takes_none notice (Some now) t = absurd t

  told_none : (was : D) (told : List Notice) (now : D) → log_of was ≡ None → AreTold Takes was told now → log_of now ≡ None
  told_none was [] now is t = subst (λ (d : D). log_of d ≡ None) (sym t) is
  told_none was (notice ∷ told) now is t = told_none t.0 told now (takes_none notice (log_of t.0) (subst (λ (o : Option W). TakesBy takes o notice (log_of t.0)) is t.1)) t.2

  pub tells_none : (log : Keeping) (who : Option Named) (was : D) → log_of was ≡ None → log.is_kept ≡ false → TellsLog Takes Refuses log who was
  tells_none log who was is none = record {
    logged = λ told now t. inl none;
    refused = λ told between now notice t r. absurd (subst (λ (o : Option W). RefusesBy refuses o notice (log_of now)) (told_none was told between is t) r);
  }
