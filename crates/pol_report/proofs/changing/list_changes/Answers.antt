use Rattle.std.proofs.Common.{◌≡◌, List, sym, ap, ◌∙◌}
use Rattle.pol_meaning.specs.declared.Changed.{Changed}
use Rattle.pol_meaning.specs.declared.ServiceChange.{ServiceChange}
use Rattle.pol_report.proofs.changing.list_changes.Goals as goal

pub returns-clause-only : goal.returns-clause-only
returns-clause-only c other are =
    let lines : c.in_ok-lines.lines ≡ other.lines = c.in_ok-lines.ensures.only other.lines are.0 in
    let services : c.in_ok-services.services ≡ other.services = c.in_ok-services.ensures ∙ sym are.1 in
    ap (λ (lines : List Changed). record { lines = lines; services = c.in_ok-services.services }) lines
    ∙ ap (λ (services : List ServiceChange). record { lines = other.lines; services = services }) services
