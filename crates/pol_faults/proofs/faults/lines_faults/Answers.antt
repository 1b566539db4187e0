use Rattle.std.proofs.Common.{◌≡◌, ◌++◌, ◌∷◌, ℕ, ◌+◌, Option, List, sym, ap, subst, ◌∙◌}
use Rattle.basics.specs.Lines.{lines_of}
use Rattle.pol_names.specs.declared.subject_id.Kind.{Kind}
use Rattle.pol_text.specs.Text.{body_of}
use Rattle.pol_words.specs.Places.{noted}
use Rattle.pol_words.specs.Plain.{Alike}
use Rattle.pol_words.specs.declared.remark.Remark.{Remark}
use Rattle.pol_faults.specs.Faults as faults
use Rattle.pol_faults.proofs.PlainFacts.{more_alike}
use Rattle.pol_faults.proofs.faults.lines_faults.Goals as goal

pub lines-preserved : goal.lines-preserved
lines-preserved c =
    let version = c.body_of-version.result.0 in
    let present = c.lines.present in
    let before = c.lines.remarks in
    let all = faults.body_faults (body_of (lines_of c.args.text.now)) in
    let some = c.in-Some.ensures.some in
    let number = c.in-Some.number in
    let line = c.in-Some.line.now in
    let lines = c.take_line.new.self.lines in
    let told = c.in_ok-note_line.ensures in
    let here : Alike (before ++ faults.lines_faults version present number (line ∷ lines)) all =
    subst (λ (n : ℕ). Alike (before ++ faults.lines_faults version present n (line ∷ lines)) all) (sym some.0)
    (subst (λ (left : List (List ℕ)). Alike (before ++ faults.lines_faults version present c.lines.lines.number left) all) some.1 c.lines.invariant) in
    let next : c.take_line.new.self.number ≡ number + 1 = some.2 ∙ ap (λ (n : ℕ). n + 1) (sym some.0) in
    let after = faults.lines_faults version (faults.kind_after present line) (number + 1) lines in
    let so : Alike ((before ++ noted number told.0) ++ after) all = more_alike number before after all told.0 (faults.line_found version present number line) told.2 here in
    subst (λ (remarks : List Remark). Alike (remarks ++ faults.lines_faults version c.in_ok-present.present c.take_line.new.self.number lines) all) (sym told.1)
    (subst (λ (kind : Option Kind). Alike ((before ++ noted number told.0) ++ faults.lines_faults version kind c.take_line.new.self.number lines) all) (sym c.in_ok-present.ensures)
    (subst (λ (n : ℕ). Alike ((before ++ noted number told.0) ++ faults.lines_faults version (faults.kind_after present line) n lines) all) (sym next) so))
