use Rattle.std.proofs.Common.{◌≡◌, ◌<◌, length, sym, ap, ◌∙◌, true, false, arith}
use Rattle.std.proofs.lemmas.List.{nil_from_length}
use Rattle.tac_hall_console.specs.Commands.{is_quit}
use Rattle.tac_hall_console.proofs.TakeFacts.{none_of, some_of, last_none, last_quit, last_line}
use Rattle.tac_hall_console.proofs.operator.Operator.take_last.Goals as goal

pub returns-then-is_empty-clause-ends : goal.returns-then-is_empty-clause-ends
returns-then-is_empty-clause-ends g c =
    let zero = none_of _ (sym c.if-is_empty.ensures) in
    let none : length c.args.self.now.begun.items ≡ 0 = omega (arith, zero, c.args.self.now.begun.ok.0) in
    last_none c.args.self.now.begun.items _ (nil_from_length c.args.self.now.begun.items none)

pub returns-then-is_quit-clause-ends : goal.returns-then-is_quit-clause-ends
returns-then-is_quit-clause-ends g c =
    let quit : is_quit c.args.self.now.begun.items ≡ true = ap is_quit (sym c.as_slice.ensures.value) ∙ sym c.if-is_quit.ensures in
    last_quit c.args.self.now.begun.items _ c.tell.new.self.console c.tell.new.witness c.requires quit c.tell.ensures.console (rw c.new.ensures.items at c.tell.ensures.heard)

pub returns-clause-ends : goal.returns-clause-ends
returns-clause-ends g c =
    let some = some_of _ (sym c.if-is_empty.ensures) in
    let least : 0 < length c.args.self.now.begun.items = omega (arith, some, c.args.self.now.begun.ok.0) in
    let other : is_quit c.args.self.now.begun.items ≡ false = ap is_quit (sym c.as_slice.ensures.value) ∙ sym c.if-is_quit.ensures in
    last_line c.answer.result c.args.self.now.begun.items _ _ least c.requires other c.answer.ensures.answers.2
