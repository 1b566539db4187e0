use Rattle.std.proofs.Common.{sym, inl}
use Rattle.basics.proofs.LineFacts.{lines_of-split, lines_of-one, parts_joined}
use Rattle.basics.proofs.lines.first_line.Goals as goal

pub returns-in-Some-clause-lines : goal.returns-in-Some-clause-lines
returns-in-Some-clause-lines c = lines_of-split c.args.text.now c.in-Some.parts.0.now c.in-Some.parts.1.now (sym c.in-Some.ensures.parts)

pub returns-in-None-clause-lines : goal.returns-in-None-clause-lines
returns-in-None-clause-lines c = lines_of-one c.args.text.now c.requires (sym c.in-None.ensures.parts)

pub returns-in-Some-clause-text : goal.returns-in-Some-clause-text
returns-in-Some-clause-text c = inl (parts_joined 10 c.args.text.now c.in-Some.parts.0.now c.in-Some.parts.1.now (sym c.in-Some.ensures.parts))
