use Rattle.std.proofs.Common.{◌∙◌}
use Rattle.tac_devices.proofs.DoubtFacts.{comment_found, comment_past, comment_none}
use Rattle.tac_devices.proofs.doubt.has_comment.Goals as goal

pub returns-then-starts_with : goal.returns-then-starts_with
returns-then-starts_with c =
    comment_found c.blanks.rest.now c.in-Some.field-0-0.now c.in-Some.after.now c.in-Some.ensures.parts c.if-starts_with.ensures.value ∙ c.blanks.invariant

pub blanks-preserved : goal.blanks-preserved
blanks-preserved c =
    comment_past c.blanks.rest.now c.in-Some.field-0-0.now c.in-Some.after.now c.in-Some.ensures.parts c.if-starts_with.ensures.value ∙ c.blanks.invariant

pub returns : goal.returns
returns c = comment_none c.blanks.rest.now c.in_default.ensures.parts ∙ c.blanks.invariant
