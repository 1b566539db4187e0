use Rattle.std.proofs.Common.{◌≡◌, ◌++◌, ◌∙◌, List, get_or, ap}
use Rattle.pol_meaning.specs.ServiceChanges.{service_change}
use Rattle.pol_meaning.specs.declared.ServiceChange.{ServiceChange}
use Rattle.pol_report.proofs.AskingFacts.{passed_over, taken_in}
use Rattle.pol_report.proofs.serving.list_asked.Goals as goal

pub places-preserved-then-not-asked-place : goal.places-preserved-then-not-asked-place
places-preserved-then-not-asked-place c =
    let change = service_change c.args.policies.now.before c.args.policies.now.after c.args.user.now in
    ap (λ (rest : List ServiceChange). c.places.changes ++ rest)
    (passed_over change c.as_slice-services.result.now c.places.place c.places-test.true c.args.asked.now c.args.services.now.keys c.as_slice-services.ensures.keys
    c.as_slice-services.ensures.unique c.requires.asked c.requires.length c.if-not-asked-place.true)
    ∙ c.places.invariant

pub places-preserved : goal.places-preserved
places-preserved c =
    let change = service_change c.args.policies.now.before c.args.policies.now.after c.args.user.now in
    let read : c.named.inside.service ≡ get_or c.as_slice-services.result.now c.places.place c.named.inside.service = rw c.named.view_is c.index-services-place.is in
    taken_in change c.as_slice-services.result.now c.places.place c.places-test.true c.places.changes c.list_service.new.changes c.named.inside.service read c.in_ok-list_service.ensures c.places.invariant
