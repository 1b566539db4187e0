use Rattle.std.proofs.Common.{◌≡◌, ◌≤◌, ap, sym, subst, ◌∙◌, count_by, length}
use Rattle.std.proofs.lemmas.List.Sums.{count_by-le-length}
use Rattle.std.specs.Str.{bytes_eq}
use Rattle.tac_census.specs.Address.{segments_of}
use Rattle.tac_census.specs.Census.{Connections, count_of}
use Rattle.tac_census.specs.Counting.{looked_up, connections_of}
use Rattle.tac_census.proofs.CountFacts.{looked_up-entry_of}
use Rattle.tac_census.proofs.census.Census.of.Goals as goal

pub returns : goal.returns
returns c =
    let was : Connections = connections_of c.self.inside in
    let is : c.count_of.result ≡ count_of c.args.address was =
    c.count_of.ensures ∙ ap looked_up (c.self.invariant.entries c.segments_of.result) ∙ looked_up-entry_of _
    ∙ ap (λ one. count_by (bytes_eq one) was.present) c.segments_of.ensures in
    rw (← c.self.view_is)
    (record {
      many = is;
      few = subst (λ n. n ≤ length was.present) (sym is) (count_by-le-length (bytes_eq (segments_of c.args.address)) was.present);
    })
