use Rattle.pol_report.specs.Sharing.{IsDifference, along_at, by_places}
use Rattle.std.specs.Prelude.{ℕ, Option}
use Rattle.std.specs.BTreeMap.{get}
use Rattle.pol_report.proofs.KnownFacts.{found_so}
use Rattle.pol_report.proofs.known.Differences.find.Goals as goal

pub returns : goal.returns
returns c before after known =
    let places : Option ℕ × Option ℕ = (c.args.keeper_before, c.args.keeper_after) in
    found_so (λ d. IsDifference (along_at before places.0) (along_at after places.1) d) c.get.result (get by_places c.args.self.now.by_keepers places) c.get.ensures.value (known places)
