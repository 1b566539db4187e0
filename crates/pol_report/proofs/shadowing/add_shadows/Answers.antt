use Rattle.std.proofs.Common.{◌≡◌, List, [], Some, sym, subst}
use Rattle.std.specs.Option.{option_map_or}
use Rattle.pol_text.specs.Policy.{Entry}
use Rattle.pol_meaning.specs.Along.{entries_of}
use Rattle.pol_report.specs.Sharing.{along, along_at, AreUnreached}
use Rattle.std.specs.Ordering.{nat_cmp}
use Rattle.pol_report.proofs.KnownFacts.{on_ok_so, same_place, written}
use Rattle.pol_report.proofs.ShadowFacts.{are_told, rules_of}
use Rattle.pol_report.proofs.shadowing.add_shadows.Goals as goal

pub returns-in-Some-get-clause-told : goal.returns-in-Some-get-clause-told
returns-in-Some-get-clause-told c =
    let live = c.args.live.now in
    let id = c.args.subject.now in
    let found = c.in-Some-get.found.now in
    let same : along_at live (Some c.in-Some.place) ≡ along live id = rw (← c.policy.ensures.policy) c.in-Some.ensures.entries in
    let here : AreUnreached (entries_of live id) found =
    subst (λ (rules : List Entry). AreUnreached rules found) (rules_of live id (Some c.in-Some.place) same) (c.requires c.in-Some.place found (sym c.in-Some-get.ensures.value)) in
    on_ok_so c.tell.result (are_told (entries_of live id) id found c.args.shadows.now c.tell.new.shadows here) c.tell.ensures

pub returns-clause-told : goal.returns-clause-told
returns-clause-told c =
    are_told (entries_of c.args.live.now c.args.subject.now) c.args.subject.now c.in_ok-found.found c.args.shadows.now c.tell-2.new.shadows c.in_ok-found.ensures c.in_ok-tell.ensures

pub returns-clause-known : goal.returns-clause-known
returns-clause-known c =
    let live = c.args.live.now in
    let id = c.args.subject.now in
    let found = c.in_ok-found.found in
    let same : along_at live (Some c.in-Some.place) ≡ along live id = rw (← c.policy.ensures.policy) c.in-Some.ensures.entries in
    let here = subst (λ (rules : List Entry). AreUnreached rules found) (sym (rules_of live id (Some c.in-Some.place) same)) c.in_ok-found.ensures in
    written nat_cmp same_place (λ k f. AreUnreached (option_map_or (λ rules. rules) (along_at live (Some k)) []) f) c.args.known.now c.insert.new.self c.in-Some.place found c.in_ok-insert.ensures.updates here c.requires
