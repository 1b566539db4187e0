use Rattle.std.proofs.Common.{◌≡◌, ◌++◌, sym, refl, true, false}
use Rattle.tac_hall_console.specs.Commands.{is_quit}
use Rattle.tac_hall_console.proofs.GoingFacts.{goes_none}
use Rattle.tac_hall_console.proofs.TakeFacts.{took_memory, took_on, took_quit, took_line, took_fault_as, is_quit-shown}
use Rattle.tac_hall_console.proofs.operator.Operator.take.Goals as goal

pub lines-init : goal.lines-init
lines-init g c = record { goes = goes_none _ _; opens = c.requires }

pub returns-in_err-extend_from_slice : goal.returns-in_err-extend_from_slice
returns-in_err-extend_from_slice g c =
    took_memory c.args.self.now.begun.items c.args.piece.now c.lines.self.begun.items c.lines.rest.now _ _ c.lines.invariant.goes
    c.from_residual.result _ c.from_residual.ensures.1

pub returns-then-is_quit : goal.returns-then-is_quit
returns-then-is_quit g c =
    let quit : is_quit (c.lines.self.begun.items ++ c.in-Some.front.now) ≡ true =
    is_quit-shown c.as_slice.result.now c.extend_from_slice.new.self.items _ true c.as_slice.ensures.value c.in_ok-extend_from_slice.ensures.items c.if-is_quit.ensures in
    took_quit c.args.self.now.begun.items c.args.piece.now c.lines.self.begun.items c.lines.rest.now _ _ c.lines.invariant.goes
    c.in-Some.front.now c.in-Some.after.now c.lines.invariant.opens (sym c.in-Some.ensures.parts) c.tell.new.self.begun.items c.tell.new.self.console c.tell.new.witness quit c.tell.ensures.console
    (rw (c.in_ok-extend_from_slice.ensures.items, c.new.ensures.items) at c.tell.ensures.heard)

pub returns-in_err-answer : goal.returns-in_err-answer
returns-in_err-answer g c =
    let other : is_quit (c.lines.self.begun.items ++ c.in-Some.front.now) ≡ false =
    is_quit-shown c.as_slice.result.now c.extend_from_slice.new.self.items _ false c.as_slice.ensures.value c.in_ok-extend_from_slice.ensures.items c.if-is_quit.ensures in
    took_fault_as c.args.self.now.begun.items c.args.piece.now c.lines.self.begun.items c.lines.rest.now _ _ c.lines.invariant.goes
    c.in-Some.front.now c.in-Some.after.now c.lines.invariant.opens (sym c.in-Some.ensures.parts) other _
    c.from_residual-in_err-answer.result c.in_err-answer.field-0.0 _ c.from_residual-in_err-answer.ensures.1
    (rw c.in_ok-extend_from_slice.ensures.items at c.in_err-answer.ensures.answers)

pub lines-preserved : goal.lines-preserved
lines-preserved g c =
    let other : is_quit (c.lines.self.begun.items ++ c.in-Some.front.now) ≡ false =
    is_quit-shown c.as_slice.result.now c.extend_from_slice.new.self.items _ false c.as_slice.ensures.value c.in_ok-extend_from_slice.ensures.items c.if-is_quit.ensures in
    rw c.in_ok-answer.ensures.begun
    (record {
      goes = took_line c.args.self.now.begun.items c.args.piece.now c.lines.self.begun.items c.lines.rest.now _ _ c.lines.invariant.goes
          c.in-Some.front.now c.in-Some.after.now c.lines.invariant.opens (sym c.in-Some.ensures.parts) other _
          (rw c.in_ok-extend_from_slice.ensures.items at c.in_ok-answer.ensures.answers);
      opens = refl;
    })

pub returns-in_err-extend_from_slice-2 : goal.returns-in_err-extend_from_slice-2
returns-in_err-extend_from_slice-2 g c =
    took_memory c.args.self.now.begun.items c.args.piece.now c.lines.self.begun.items c.lines.rest.now _ _ c.lines.invariant.goes
    c.from_residual-in_err-extend_from_slice-2.result _ c.from_residual-in_err-extend_from_slice-2.ensures.1

pub returns : goal.returns
returns g c =
    took_on c.args.self.now.begun.items c.args.piece.now c.lines.self.begun.items c.lines.rest.now _ _ c.lines.invariant.goes
    c.extend_from_slice-2.new.self.items c.in_ok-extend_from_slice-2.ensures.items c.lines.invariant.opens (sym (rw c.in_default.is at c.split_once.ensures.parts))
