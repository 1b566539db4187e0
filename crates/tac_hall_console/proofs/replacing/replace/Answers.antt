use Rattle.std.proofs.Common.{◌≡◌, true, false, Some, None, sym}
use Rattle.tac_hall.specs.View.{made_of}
use Rattle.tac_hall.specs.declared.call.Call.TheVariants as calls
use Rattle.tac_hall_console.specs.Operated.{Replaces, policy_question, policy_in, made, refused, barred, loaded, unloaded, no_user_line}
use Rattle.tac_hall_console.specs.Users.{turnover, shuts_out}
use Rattle.tac_hall_console.proofs.CallFacts.{tells_ok, tells_err}
use Rattle.tac_hall_console.proofs.ReloadFacts.{added, unasked, unlearnt, bars, called, uncalled}
use Rattle.tac_hall_console.proofs.replacing.replace.Goals as goal

pub returns-in-Err-clause-ok : goal.returns-in-Err-clause-ok
returns-in-Err-clause-ok g c =
    tells_ok (Replaces g.J.Run.opening c.args.seat.now c.args.policy) (refused c.in-Err.fault) c.call.new.seat c.args.out.now.items c.write_refusal.new.out.items c.write_refusal.result
    (unasked g.J.Run.opening c.args.seat.now c.args.policy c.in-Err.fault c.call.new.seat c.in-Err.ensures.refused c.in-Err.ensures.err) c.write_refusal.ensures

pub returns-in_default-clause-ok : goal.returns-in_default-clause-ok
returns-in_default-clause-ok g c =
    let none : policy_in c.in-Ok.receipt.answer ≡ None = sym (rw c.in_default.is at c.policy_in.ensures) in
    tells_ok (Replaces g.J.Run.opening c.args.seat.now c.args.policy) (made (made_of policy_question c.in-Ok.receipt)) c.call.new.seat c.args.out.now.items c.write_answer.new.out.items c.write_answer.result
    (unlearnt g.J.Run.opening c.args.seat.now c.args.policy c.in-Ok.receipt c.call.new.seat c.in-Ok.ensures.made none) c.write_answer.ensures

pub returns-then-shuts_out-clause-ok : goal.returns-then-shuts_out-clause-ok
returns-then-shuts_out-clause-ok g c =
    let some : policy_in c.in-Ok.receipt.answer ≡ Some c.in-Some.present.now = sym (rw c.in-Some.is at c.policy_in.ensures) in
    let shuts : shuts_out (turnover c.in-Some.present.now c.args.policy) ≡ true = rw c.between-between.ensures at (sym c.if-shuts_out.ensures) in
    tells_ok (Replaces g.J.Run.opening c.args.seat.now c.args.policy) (barred (made_of policy_question c.in-Ok.receipt)) c.call.new.seat c.args.out.now.items c.extend_from_slice.new.self.items c.extend_from_slice.result
    (bars g.J.Run.opening c.args.seat.now c.args.policy c.in-Ok.receipt c.call.new.seat c.in-Ok.ensures.made c.in-Some.present.now some shuts)
    (added c.extend_from_slice.result c.args.out.now.items c.extend_from_slice.new.self.items no_user_line c.extend_from_slice.ensures.items)

pub returns-in-Ok-call-clause-ok : goal.returns-in-Ok-call-clause-ok
returns-in-Ok-call-clause-ok g c =
    let some : policy_in c.in-Ok.receipt.answer ≡ Some c.in-Some.present.now = sym (rw c.in-Some.is at c.policy_in.ensures) in
    let stays : shuts_out (turnover c.in-Some.present.now c.args.policy) ≡ false = rw c.between-between.ensures at (sym c.if-shuts_out.ensures) in
    tells_ok (Replaces g.J.Run.opening c.args.seat.now c.args.policy)
    (loaded c.in-Some.present.now (made_of policy_question c.in-Ok.receipt) (made_of (calls.Load c.args.policy) c.in-Ok-call.receipt))
    c.call-2.new.seat c.args.out.now.items c.write_load.new.out.items c.write_load.result
    (called g.J.Run.opening c.args.seat.now c.args.policy c.in-Ok.receipt c.call.new.seat c.in-Ok.ensures.made c.in-Some.present.now some c.in-Ok-call.receipt c.call-2.new.seat stays c.in-Ok-call.ensures.made)
    c.write_load.ensures

pub returns-clause-ok : goal.returns-clause-ok
returns-clause-ok g c =
    let some : policy_in c.in-Ok.receipt.answer ≡ Some c.in-Some.present.now = sym (rw c.in-Some.is at c.policy_in.ensures) in
    let stays : shuts_out (turnover c.in-Some.present.now c.args.policy) ≡ false = rw c.between-between.ensures at (sym c.if-shuts_out.ensures) in
    tells_ok (Replaces g.J.Run.opening c.args.seat.now c.args.policy) (unloaded (made_of policy_question c.in-Ok.receipt) c.in-Err-call.fault)
    c.call-2.new.seat c.args.out.now.items c.write_refusal-in-Err-call.new.out.items c.write_refusal-in-Err-call.result
    (uncalled g.J.Run.opening c.args.seat.now c.args.policy c.in-Ok.receipt c.call.new.seat c.in-Ok.ensures.made c.in-Some.present.now some c.in-Err-call.fault c.call-2.new.seat stays c.in-Err-call.ensures.refused c.in-Err-call.ensures.err)
    c.write_refusal-in-Err-call.ensures

pub returns-in-Err-clause-err : goal.returns-in-Err-clause-err
returns-in-Err-clause-err g c =
    tells_err (Replaces g.J.Run.opening c.args.seat.now c.args.policy) (refused c.in-Err.fault) c.args.seat.now c.call.new.seat c.write_refusal.result
    (unasked g.J.Run.opening c.args.seat.now c.args.policy c.in-Err.fault c.call.new.seat c.in-Err.ensures.refused c.in-Err.ensures.err)

pub returns-in_default-clause-err : goal.returns-in_default-clause-err
returns-in_default-clause-err g c =
    let none : policy_in c.in-Ok.receipt.answer ≡ None = sym (rw c.in_default.is at c.policy_in.ensures) in
    tells_err (Replaces g.J.Run.opening c.args.seat.now c.args.policy) (made (made_of policy_question c.in-Ok.receipt)) c.args.seat.now c.call.new.seat c.write_answer.result
    (unlearnt g.J.Run.opening c.args.seat.now c.args.policy c.in-Ok.receipt c.call.new.seat c.in-Ok.ensures.made none)

pub returns-then-shuts_out-clause-err : goal.returns-then-shuts_out-clause-err
returns-then-shuts_out-clause-err g c =
    let some : policy_in c.in-Ok.receipt.answer ≡ Some c.in-Some.present.now = sym (rw c.in-Some.is at c.policy_in.ensures) in
    let shuts : shuts_out (turnover c.in-Some.present.now c.args.policy) ≡ true = rw c.between-between.ensures at (sym c.if-shuts_out.ensures) in
    tells_err (Replaces g.J.Run.opening c.args.seat.now c.args.policy) (barred (made_of policy_question c.in-Ok.receipt)) c.args.seat.now c.call.new.seat c.extend_from_slice.result
    (bars g.J.Run.opening c.args.seat.now c.args.policy c.in-Ok.receipt c.call.new.seat c.in-Ok.ensures.made c.in-Some.present.now some shuts)

pub returns-in-Ok-call-clause-err : goal.returns-in-Ok-call-clause-err
returns-in-Ok-call-clause-err g c =
    let some : policy_in c.in-Ok.receipt.answer ≡ Some c.in-Some.present.now = sym (rw c.in-Some.is at c.policy_in.ensures) in
    let stays : shuts_out (turnover c.in-Some.present.now c.args.policy) ≡ false = rw c.between-between.ensures at (sym c.if-shuts_out.ensures) in
    tells_err (Replaces g.J.Run.opening c.args.seat.now c.args.policy) (loaded c.in-Some.present.now (made_of policy_question c.in-Ok.receipt) (made_of (calls.Load c.args.policy) c.in-Ok-call.receipt)) c.args.seat.now c.call-2.new.seat c.write_load.result
    (called g.J.Run.opening c.args.seat.now c.args.policy c.in-Ok.receipt c.call.new.seat c.in-Ok.ensures.made c.in-Some.present.now some c.in-Ok-call.receipt c.call-2.new.seat stays c.in-Ok-call.ensures.made)

pub returns-clause-err : goal.returns-clause-err
returns-clause-err g c =
    let some : policy_in c.in-Ok.receipt.answer ≡ Some c.in-Some.present.now = sym (rw c.in-Some.is at c.policy_in.ensures) in
    let stays : shuts_out (turnover c.in-Some.present.now c.args.policy) ≡ false = rw c.between-between.ensures at (sym c.if-shuts_out.ensures) in
    tells_err (Replaces g.J.Run.opening c.args.seat.now c.args.policy) (unloaded (made_of policy_question c.in-Ok.receipt) c.in-Err-call.fault) c.args.seat.now c.call-2.new.seat c.write_refusal-in-Err-call.result
    (uncalled g.J.Run.opening c.args.seat.now c.args.policy c.in-Ok.receipt c.call.new.seat c.in-Ok.ensures.made c.in-Some.present.now some c.in-Err-call.fault c.call-2.new.seat stays c.in-Err-call.ensures.refused c.in-Err-call.ensures.err)
