use Rattle.std.proofs.Common.{◌-◌, ◌∙◌, ap, sym}
use Rattle.std.specs.List.{zip}
use Rattle.pol_text.specs.Setting.{changed_by}
use Rattle.pol_text.proofs.DraftFacts.{present_made, nothing_present, ids_kept}
use Rattle.pol_text.proofs.Pairs.{present, none_there}
use Rattle.pol_text.proofs.SettingFacts.{made_kept}
use Rattle.pol_text.proofs.draft.Draft.change_present.Goals as goal

pub returns-in_default : goal.returns-in_default
returns-in_default c =
    nothing_present (changed_by c.args.setting) c.args.self.now
    (sym c.self.view_is ∙ none_there c.self.inside.lines.items c.self.inside.subjects c.saturating_sub-last.result (c.saturating_sub-last.ensures ∙ ap (λ n. n - 1) c.len.ensures) (sym c.in_default.ensures.item))

pub invariant_of-self-2 : goal.invariant_of-self-2
invariant_of-self-2 c =
    let h = present c.self.inside.lines.items c.self.inside.subjects c.saturating_sub-last.result c.in-Some.subject.now c.self.invariant.0 (c.saturating_sub-last.ensures ∙ ap (λ n. n - 1) c.len.ensures) (sym c.in-Some.ensures.item) in
    let kept = made_kept c.make.result c.args.setting c.in-Some.subject.now c.make.new.subject c.make.ensures.made c.make.ensures.err in
    rw (h.changed c.make.new.subject)
    (h.long c.make.new.subject, ids_kept c.self.inside.places.keys c.self.inside.subjects h.front c.in-Some.subject.now c.make.new.subject c.self.invariant.1 h.whole kept)

pub returns : goal.returns
returns c =
    let h = present c.self.inside.lines.items c.self.inside.subjects c.saturating_sub-last.result c.in-Some.subject.now c.self.invariant.0 (c.saturating_sub-last.ensures ∙ ap (λ n. n - 1) c.len.ensures) (sym c.in-Some.ensures.item) in
    rw (h.changed c.make.new.subject, h.paired c.make.new.subject)
    (present_made c.make.result (changed_by c.args.setting) c.args.self.now (zip h.before h.front) h.line c.in-Some.subject.now c.make.new.subject
    (sym c.self.view_is ∙ ap (zip c.self.inside.lines.items) h.whole ∙ h.paired c.in-Some.subject.now) c.make.ensures.made)
