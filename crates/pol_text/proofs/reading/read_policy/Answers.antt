use Rattle.std.proofs.Common.{[]}
use Rattle.basics.specs.Lines.{lines_of}
use Rattle.pol_text.specs.Text.{body_of}
use Rattle.pol_text.proofs.RightFacts.{right-nil, lines_right}
use Rattle.pol_text.proofs.reading.read_policy.Goals as goal

pub finish-requires : goal.finish-requires
finish-requires c =
    let body = body_of (lines_of c.args.text.now) in
    lines_right body.version body.number body.lines [] c.in_ok-draft.draft right-nil c.in_ok-draft.ensures
