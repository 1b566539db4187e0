use Rattle.std.proofs.Common.{sym, ap, ◌∙◌}
use Rattle.basics.specs.Lines.{Unread}
use Rattle.tac_server.proofs.RunFacts.{lines_none, lines_bad}
use Rattle.tac_server.proofs.script.run_script.Goals as goal

pub returns-in_default : goal.returns-in_default
returns-in_default g c =
    rw c.at.ensures (lines_none c.args.out.now.items _ (ap (λ (u : Unread). u.lines) (sym c.new-lines.ensures) ∙ c.in_default.ensures.none.0))

pub returns-in_default-read_key : goal.returns-in_default-read_key
returns-in_default-read_key g c =
    rw c.at-in_default-read_key.ensures
    (lines_bad c.args.out.now.items _ c.take_line.new.self.lines c.in-Some.line.now (ap (λ (u : Unread). u.lines) (sym c.new-lines.ensures) ∙ c.in-Some.ensures.some.1) (sym c.in_default-read_key.ensures))
