use Rattle.std.proofs.Common.{◌≡◌, ◌++◌, ◌<◌, Bool, [], length, get_or, Some, None, sym, ap, ◌∙◌, if◌then◌else◌}
use Rattle.std.specs.List.{cons_option}
use Rattle.pol_text.specs.Policy.{id_of}
use Rattle.pol_text.specs.declared.subject.Subject.{Subject}
use Rattle.pol_live.specs.Renewing.{had_rules, was_alike}
use Rattle.pol_live.proofs.ReplaceFacts.{listed_on}
use Rattle.pol_live.proofs.touching.touched_between.Goals as goal

pub loop-subject-preserved : goal.loop-subject-preserved
loop-subject-preserved c =
    let before = c.args.before.now in
    let after = c.args.after.now in
    let i = c.loop-subject.subject-index in
    let subject = c.subject-item.result in
    let same : c.subjects-subject-items.result.now ≡ after = c.subjects-subject-items.ensures.subjects in
    let lt : i < length after = rw (← same) c.loop-subject-test.true in
    let at : get_or after i subject ≡ subject = rw (← same) (sym c.subject-item.is) in
    let passed = λ (b : Bool). if b then None else Some (id_of subject) in
    record {
      all = listed_on (λ (s : Subject). if was_alike before s then None else Some (id_of s)) c.loop-subject.all c.add.new.subjects i after subject lt at
          (c.in_ok-add.ensures ∙ ap (λ o. c.loop-subject.all ++ cons_option o []) (c.unless.ensures ∙ ap passed c.was-had_rules.ensures.alike)) c.loop-subject.invariant.all;
      rewritten = listed_on (λ (s : Subject). if had_rules before s then None else Some (id_of s)) c.loop-subject.rewritten c.add-in-loop-subject.new.subjects i after subject lt at
          (c.in_ok-add-2.ensures ∙ ap (λ o. c.loop-subject.rewritten ++ cons_option o []) (c.unless-in-loop-subject.ensures ∙ ap passed c.was-had_rules.ensures.rules)) c.loop-subject.invariant.rewritten;
    }
