use Rattle.std.proofs.Common.{◌≡◌, sym, ◌∙◌}
use Rattle.pol_meaning.specs.Along.{entries_of, patterns_of}
use Rattle.pol_report.specs.Sharing.{along}
use Rattle.pol_report.proofs.ReachFacts.{if_ok_both}
use Rattle.pol_report.proofs.ChangeFacts.{own_verdicts, present_side, found_difference}
use Rattle.pol_report.proofs.differing.difference_for.Goals as goal

pub returns : goal.returns
returns c =
    let before = c.args.policies.now.before in
    let after = c.args.policies.now.after in
    let id = c.args.id.now in
    let first = entries_of before id in
    let second = entries_of after id in
    let law = c.decider_before-was.ensures.law in
    let was_says : c.in_ok-was_says.was_says.items ≡ own_verdicts first = rw (← c.old_policy.ensures) c.in_ok-was_says.ensures in
    let is_says : c.in_ok-is_says.is_says.items ≡ own_verdicts second = rw (← c.new_policy.ensures) c.in_ok-is_says.ensures in
    let verdicts : own_verdicts first ≡ c.deref.result.now = sym (c.deref.ensures.value ∙ was_says) in
    let later : own_verdicts second ≡ c.deref-2.result.now = sym (c.deref-2.ensures.value ∙ is_says) in
    if_ok_both c.between.result
    (found_difference law (along before id) (along after id) (patterns_of first) (patterns_of second) (own_verdicts first) (own_verdicts second) (present_side law before id) (present_side law after id))
    (c.between.ensures.permits (record { entries = patterns_of first; verdicts = own_verdicts first }) (record { entries = patterns_of second; verdicts = own_verdicts second })
    c.decider_before-was.ensures.decider c.decider_after-is.ensures.decider verdicts later)
    (c.between.ensures.denies (record { entries = patterns_of first; verdicts = own_verdicts first }) (record { entries = patterns_of second; verdicts = own_verdicts second })
    c.decider_before-was.ensures.decider c.decider_after-is.ensures.decider verdicts later)
