use Rattle.std.proofs.Common.{◌≤◌, length, arith}
use Rattle.pol_pattern.proofs.HeldTexts.{match_law}
use Rattle.tac_io.proofs.Answered.{answered}
use Rattle.tac_review.specs.Reading.{given, Wanted}
use Rattle.tac_review.specs.Review.{IsRight, Reviews}
use Rattle.tac_review.proofs.DeviceFacts.{tells_devices, compares_sent}
use Rattle.tac_review.proofs.ReadingFacts.{worked_given}
use Rattle.tac_review.proofs.reviewing.review.Goals as goal

pub returns-in-Ok-write_answer-clause-answered : goal.returns-in-Ok-write_answer-clause-answered
returns-in-Ok-write_answer-clause-answered g c =
    let wanted : Wanted = λ one two output end. IsRight c.args.review (Reviews c.args.review c.args.names.0.now c.args.names.1.now one two) output end in
    let first = g.R.Read.remaining c.args.first.now in
    let few : length c.in-Ok.text.items ≤ 268435456 = omega (arith, c.in-Ok.text.ok, c.in-Ok.ensures.bound) in
    rw c.in-Ok-write_answer.is at
    (answered (given first wanted) _ _ _ _ _
    (worked_given wanted c.in-Ok.text.items first _ _ _ c.in-Ok.ensures.bytes c.in-Ok.ensures.end few (rw c.as_slice.ensures.value at c.answer.ensures.worked)) c.write_answer.ensures)

pub returns-clause-answered : goal.returns-clause-answered
returns-clause-answered g c =
    let wanted : Wanted = λ one two output end. IsRight c.args.review (Reviews c.args.review c.args.names.0.now c.args.names.1.now one two) output end in
    let first = g.R.Read.remaining c.args.first.now in
    let few : length c.in-Ok.text.items ≤ 268435456 = omega (arith, c.in-Ok.text.ok, c.in-Ok.ensures.bound) in
    rw c.in-Err-write_answer.is at
    (answered (given first wanted) _ _ _ _ _
    (worked_given wanted c.in-Ok.text.items first _ _ _ c.in-Ok.ensures.bytes c.in-Ok.ensures.end few (rw c.as_slice.ensures.value at c.answer.ensures.worked)) c.write_answer.ensures)

pub returns-in-Ok-write_answer-clause-matching : goal.returns-in-Ok-write_answer-clause-matching
returns-in-Ok-write_answer-clause-matching g c = match_law

pub returns-clause-matching : goal.returns-clause-matching
returns-clause-matching g c = match_law

pub returns-in-Err-clause-matching : goal.returns-in-Err-clause-matching
returns-in-Err-clause-matching g c = match_law

pub returns-in-Ok-write_answer-clause-devices : goal.returns-in-Ok-write_answer-clause-devices
returns-in-Ok-write_answer-clause-devices g c = tells_devices

pub returns-clause-devices : goal.returns-clause-devices
returns-clause-devices g c = tells_devices

pub returns-in-Err-clause-devices : goal.returns-in-Err-clause-devices
returns-in-Err-clause-devices g c = tells_devices

pub returns-in-Ok-write_answer-clause-compared : goal.returns-in-Ok-write_answer-clause-compared
returns-in-Ok-write_answer-clause-compared g c = compares_sent

pub returns-clause-compared : goal.returns-clause-compared
returns-clause-compared g c = compares_sent

pub returns-in-Err-clause-compared : goal.returns-in-Err-clause-compared
returns-in-Err-clause-compared g c = compares_sent
