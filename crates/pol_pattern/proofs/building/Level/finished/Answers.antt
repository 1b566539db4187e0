use Rattle.pol_pattern.proofs.Written.{finished_written}
use Rattle.pol_pattern.proofs.building.Level.finished.Goals as goal

pub returns : goal.returns
returns c = λ level same. finished_written c.args.self level _ _ same c.in_ok-append.ensures.items c.in_ok-push.ensures.items
