use Rattle.pol_report.specs.Sharing.{IsDifference, along_at, by_places}
use Rattle.pol_report.proofs.KnownFacts.{same_places, written}
use Rattle.pol_report.proofs.known.Differences.remember.Goals as goal

pub returns : goal.returns
returns c before after known difference places found there =
    written by_places same_places (λ k f. IsDifference (along_at before k.0) (along_at after k.1) f) c.args.self.now.by_keepers c.insert.new.self (c.args.keeper_before, c.args.keeper_after)
    c.args.difference c.in_ok-insert.ensures.updates difference known places found there
