-- What a desk that is made of a policy represents.
use Rattle.std.proofs.Common.{◌≡◌, List, Ok, Err, refl, sym, ap}
use Rattle.pol_text.specs.declared.subject.Subject.{Subject}
use Rattle.pol_live.specs.declared.fault.BuildFault.{BuildFault}
use Rattle.pol_live.specs.Live.{Builds, IsOnlyBuilt}
use Rattle.tac_tally.specs.declared.limit.RecordLimit.{RecordLimit}
use Rattle.tac_desk.specs.Meaning.{Meaning, opened}
use Rattle.tac_desks.specs.Opening.{IsOnlyOpened}

module _ (policy : List Subject) (limit : RecordLimit) where
  pub opened_only : (built : List Subject) → Builds policy (Ok built) → IsOnlyBuilt policy (Ok built) → IsOnlyOpened policy limit (Ok (opened policy limit))
  opened_only built h only (Ok meaning) k = ap (λ (m : Meaning). Ok m) (sym k.0)
  opened_only built h only (Err fault) k = let e : Ok built ≡ Err fault = only (Err fault) k in absurd cc

  pub refused_only : (fault : BuildFault) → IsOnlyBuilt policy (Err fault) → IsOnlyOpened policy limit (Err fault)
  refused_only fault only (Ok meaning) k = let e : Err fault ≡ Ok policy = only (Ok policy) (refl, k.1) in absurd cc
  refused_only fault only (Err other) k =
      let e : Err fault ≡ Err other = only (Err other) k in
      let same : fault ≡ other = cc in ap (λ (f : BuildFault). Err f) same
