use Rattle.std.proofs.lemmas.Result.{err_from_is_err_and}
use Rattle.std.specs.List.{zip}
use Rattle.pol_text.specs.Policy.{has_parent, ends_within}
use Rattle.pol_text.proofs.CheckFacts.{paired, within_lines, orphan_refused, parents_right, cycle_refused, ends_right, deep_refused, all_right}
use Rattle.pol_text.proofs.checking.check_chains.Goals as goal

pub refuse-requires : goal.refuse-requires
refuse-requires c =
    within_lines c.first_orphan-orphan.result (has_parent c.args.subjects.now) c.args.subjects.now c.args.lines.now c.first_orphan-orphan.ensures c.requires.sizes

pub refuse-requires-2 : goal.refuse-requires-2
refuse-requires-2 c =
    within_lines c.first_longer-endless.result (ends_within c.len.result c.args.subjects.now) c.args.subjects.now c.args.lines.now c.first_longer-endless.ensures c.requires.sizes

pub refuse-requires-3 : goal.refuse-requires-3
refuse-requires-3 c =
    within_lines c.first_longer-deep.result (ends_within 8 c.args.subjects.now) c.args.subjects.now c.args.lines.now c.first_longer-deep.ensures c.requires.sizes

pub returns-in_err-refuse : goal.returns-in_err-refuse
returns-in_err-refuse c =
    let p = err_from_is_err_and c.from_residual.result c.from_residual.ensures.1 in
    let draft = zip c.args.lines.now c.args.subjects.now in
    let of = paired c.args.lines.now c.args.subjects.now c.requires.sizes in
    rw (p.1, p.2) (orphan_refused draft c.args.lines.now c.args.subjects.now of c.first_orphan-orphan.result c.in_err-refuse.field-0.0 c.first_orphan-orphan.ensures c.in_err-refuse.ensures)

pub returns-in_err-refuse-2 : goal.returns-in_err-refuse-2
returns-in_err-refuse-2 c =
    let p = err_from_is_err_and c.from_residual-in_err-refuse-2.result c.from_residual-in_err-refuse-2.ensures.1 in
    let draft = zip c.args.lines.now c.args.subjects.now in
    let of = paired c.args.lines.now c.args.subjects.now c.requires.sizes in
    let parents = parents_right draft c.args.lines.now c.args.subjects.now of c.first_orphan-orphan.result c.in_ok-refuse.field-0 c.first_orphan-orphan.ensures c.in_ok-refuse.ensures in
    rw (p.1, p.2) (cycle_refused draft c.args.lines.now c.args.subjects.now of c.first_longer-endless.result c.len.result c.in_err-refuse-2.field-0.0 parents c.len.ensures c.first_longer-endless.ensures c.in_err-refuse-2.ensures)

pub returns-in_err-refuse-3 : goal.returns-in_err-refuse-3
returns-in_err-refuse-3 c =
    let p = err_from_is_err_and c.from_residual-in_err-refuse-3.result c.from_residual-in_err-refuse-3.ensures.1 in
    let draft = zip c.args.lines.now c.args.subjects.now in
    let of = paired c.args.lines.now c.args.subjects.now c.requires.sizes in
    let parents = parents_right draft c.args.lines.now c.args.subjects.now of c.first_orphan-orphan.result c.in_ok-refuse.field-0 c.first_orphan-orphan.ensures c.in_ok-refuse.ensures in
    let ends = ends_right draft c.args.lines.now c.args.subjects.now of c.first_longer-endless.result c.len.result c.in_ok-refuse-2.field-0 c.len.ensures c.first_longer-endless.ensures c.in_ok-refuse-2.ensures in
    rw (p.1, p.2) (deep_refused draft c.args.lines.now c.args.subjects.now of c.first_longer-deep.result c.in_err-refuse-3.field-0.0 parents ends c.first_longer-deep.ensures c.in_err-refuse-3.ensures)

pub returns : goal.returns
returns c =
    let draft = zip c.args.lines.now c.args.subjects.now in
    let of = paired c.args.lines.now c.args.subjects.now c.requires.sizes in
    let parents = parents_right draft c.args.lines.now c.args.subjects.now of c.first_orphan-orphan.result c.in_ok-refuse.field-0 c.first_orphan-orphan.ensures c.in_ok-refuse.ensures in
    let ends = ends_right draft c.args.lines.now c.args.subjects.now of c.first_longer-endless.result c.len.result c.in_ok-refuse-2.field-0 c.len.ensures c.first_longer-endless.ensures c.in_ok-refuse-2.ensures in
    all_right draft c.args.lines.now c.args.subjects.now of c.first_longer-deep.result c.in_ok-refuse-3.field-0 parents ends c.first_longer-deep.ensures c.in_ok-refuse-3.ensures
