use Rattle.std.proofs.Common.{◌-◌, ◌∙◌, ap, sym}
use Rattle.std.specs.List.{zip}
use Rattle.pol_text.specs.Text.{with_service}
use Rattle.pol_text.proofs.DraftFacts.{present_made, nothing_present, ids_kept}
use Rattle.pol_text.proofs.Pairs.{present, none_there}
use Rattle.pol_text.proofs.SettingFacts.{said_kept}
use Rattle.pol_text.proofs.draft.Draft.say.Goals as goal

pub returns-in_default : goal.returns-in_default
returns-in_default c =
    nothing_present (with_service c.args.line) c.args.self.now
    (sym c.self.view_is ∙ none_there c.self.inside.lines.items c.self.inside.subjects c.saturating_sub-last.result (c.saturating_sub-last.ensures ∙ ap (λ n. n - 1) c.len.ensures) (sym c.in_default.ensures.item))

pub invariant_of-self-2 : goal.invariant_of-self-2
invariant_of-self-2 c =
    let h = present c.self.inside.lines.items c.self.inside.subjects c.saturating_sub-last.result c.in-Some.subject.now c.self.invariant.0 (c.saturating_sub-last.ensures ∙ ap (λ n. n - 1) c.len.ensures) (sym c.in-Some.ensures.item) in
    let kept = said_kept c.add_line.result c.args.line c.in-Some.subject.now c.add_line.new.subject c.add_line.ensures.made c.add_line.ensures.err in
    rw (h.changed c.add_line.new.subject)
    (h.long c.add_line.new.subject, ids_kept c.self.inside.places.keys c.self.inside.subjects h.front c.in-Some.subject.now c.add_line.new.subject c.self.invariant.1 h.whole kept)

pub returns : goal.returns
returns c =
    let h = present c.self.inside.lines.items c.self.inside.subjects c.saturating_sub-last.result c.in-Some.subject.now c.self.invariant.0 (c.saturating_sub-last.ensures ∙ ap (λ n. n - 1) c.len.ensures) (sym c.in-Some.ensures.item) in
    rw (h.changed c.add_line.new.subject, h.paired c.add_line.new.subject)
    (present_made c.add_line.result (with_service c.args.line) c.args.self.now (zip h.before h.front) h.line c.in-Some.subject.now c.add_line.new.subject
    (sym c.self.view_is ∙ ap (zip c.self.inside.lines.items) h.whole ∙ h.paired c.in-Some.subject.now) c.add_line.ensures.made)
