use Rattle.std.proofs.Common.{◌∷◌, ◌++◌, [], ◌∙◌, ap, sym, length, Ok}
use Rattle.std.proofs.lemmas.List.{length-map}
use Rattle.std.proofs.lemmas.Result.{err_from_is_err_and}
use Rattle.pol_text.specs.declared.fault.LineFault.TheVariants as lines
use Rattle.pol_text.specs.Policy.{id_of}
use Rattle.pol_text.specs.Text.{Draft, new_subject}
use Rattle.pol_text.proofs.DraftFacts.{subject_refused, subject_added}
use Rattle.pol_text.proofs.Pairs.{as_long, drafted_ids, pushed}
use Rattle.pol_text.proofs.draft.Draft.add_subject.Goals as goal

pub returns-in_err-check_place : goal.returns-in_err-check_place
returns-in_err-check_place c =
    let p = err_from_is_err_and c.from_residual.result c.from_residual.ensures.1 in
    let ids = drafted_ids c.self.inside.lines.items c.self.inside.subjects c.args.self.now c.self.inside.places.keys c.self.invariant.0 c.self.invariant.1 c.self.view_is in
    let size = ap length (sym c.self.view_is) ∙ as_long c.self.inside.lines.items c.self.inside.subjects c.self.invariant.0 in
    let many = ap length c.self.invariant.1 ∙ length-map c.self.inside.subjects id_of ∙ sym size in
    rw (p.1, p.2) (subject_refused c.args.line c.args.kind c.args.name c.args.parent c.args.self.now c.self.inside.places.keys (length c.self.inside.places.keys)
    ids many (lines.Refused c.in_err-check_place.field-0.0) (sym c.in_err-check_place.ensures))

pub returns : goal.returns
returns c =
    let ids = drafted_ids c.self.inside.lines.items c.self.inside.subjects c.args.self.now c.self.inside.places.keys c.self.invariant.0 c.self.invariant.1 c.self.view_is in
    let size = ap length (sym c.self.view_is) ∙ as_long c.self.inside.lines.items c.self.inside.subjects c.self.invariant.0 in
    let many = ap length c.self.invariant.1 ∙ length-map c.self.inside.subjects id_of ∙ sym size in
    let lines_now = c.in_ok-push.ensures.items ∙ ap (λ l. l ++ c.args.line ∷ []) c.in_ok-reserve.ensures.items in
    subject_added c.args.line c.args.kind c.args.name c.args.parent c.args.self.now c.self.inside.places.keys (length c.self.inside.places.keys)
    ids many (sym c.in_ok-check_place.ensures)
    ∙ ap (λ (d : Draft). Ok d) (sym (pushed c.self.inside.lines.items c.push.new.self.items c.self.inside.subjects c.push_subject.new.subjects c.args.line c.new-subject.result c.self.invariant.0
    lines_now c.in_ok-push_subject.ensures.subjects c.args.self.now (new_subject c.args.kind c.args.name c.args.parent) c.self.view_is c.new-subject.ensures.subject))
