use Rattle.std.proofs.Common.{◌≡◌, ◌++◌, ◌∷◌, ℕ, ◌+◌, Bool, List, sym, ap, subst, ◌∙◌}
use Rattle.std.proofs.lemmas.List.{append_assoc}
use Rattle.std.proofs.lemmas.List.Elements.{All-append}
use Rattle.basics.specs.Lines.{lines_of}
use Rattle.pol_words.specs.Places.{noted}
use Rattle.pol_words.specs.declared.remark.Remark.{Remark}
use Rattle.pol_faults.specs.Sizes.{IsSearch, rules_from, rules_along}
use Rattle.pol_faults.proofs.SizeFacts.{Among, one_told, later_among}
use Rattle.pol_faults.proofs.sizes.note_searches.Goals as goal

pub lines-preserved : goal.lines-preserved
lines-preserved c =
    let headings = c.args.headings.now in
    let large = c.args.large.now in
    let all = rules_along headings large (lines_of c.args.text.now) in
    let told = c.lines.invariant in
    let some = c.in-Some.ensures.some in
    let number = c.in-Some.number in
    let line = c.in-Some.line.now in
    let lines = c.take_line.new.self.lines in
    let here : Among (rules_from headings large c.lines.along number (line ∷ lines)) all =
    subst (λ (n : ℕ). Among (rules_from headings large c.lines.along n (line ∷ lines)) all) (sym some.0)
    (subst (λ (left : List (List ℕ)). Among (rules_from headings large c.lines.along c.lines.lines.number left) all) some.1 told.3) in
    let more = noted number c.rule_found.result in
    let next : c.take_line.new.self.number ≡ number + 1 = some.2 ∙ ap (λ (n : ℕ). n + 1) (sym some.0) in (
      told.0 ++ more,
      c.in_ok-note.ensures ∙ ap (λ (before : List Remark). before ++ more) told.1 ∙ append_assoc c.args.remarks.now told.0 more,
      All-append (IsSearch all) told.0 more told.2 (one_told headings large all c.lines.along number line lines c.rule_found.result here c.rule_found.ensures),
      subst (λ (n : ℕ). Among (rules_from headings large c.along_after-along.result n lines) all) (sym next)
          (subst (λ (b : Bool). Among (rules_from headings large b (number + 1) lines) all) (sym c.along_after-along.ensures)
          (later_among headings large all c.lines.along number line lines here)),
    )
