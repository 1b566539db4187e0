use Rattle.std.proofs.Common.{◌≤◌, ◌-◌, length, ◌∙◌, arith}
use Rattle.std.proofs.lemmas.Result.{on_ok_weaker}
use Rattle.tac_audit.specs.Masking.{most_told}
use Rattle.tac_audit.proofs.AnswerFacts.{front_all}
use Rattle.tac_audit.proofs.typing.push_told.Goals as goal

pub returns-then-piece-room : goal.returns-then-piece-room
unfolding most_told
returns-then-piece-room c =
    let short : length c.args.piece.now ≤ most_told - length c.args.front.now = omega (arith, c.len-room.ensures, c.if-piece-room.true) in
    on_ok_weaker c.extend_from_slice.result (λ e. e ∙ front_all most_told c.args.front.now c.args.piece.now c.requires short) c.extend_from_slice.ensures.ok
