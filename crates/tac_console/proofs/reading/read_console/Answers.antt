use Rattle.std.proofs.Common.{rules}
use Rattle.tac_console.proofs.Lines.{word_found, word_only, no_word, query_found, query_only, no_query, no_edit, neither_only}
use Rattle.tac_console.proofs.reading.read_console.Goals as goal

pub returns-in-Some-clause-found : goal.returns-in-Some-clause-found
returns-in-Some-clause-found c = word_found c.args.line.now c.in-Some.word (search rules)

pub returns-in-Some-clause-only : goal.returns-in-Some-clause-only
returns-in-Some-clause-only c = word_only c.args.line.now c.in-Some.word (search rules)

pub returns-in-Some-2-clause-found : goal.returns-in-Some-2-clause-found
returns-in-Some-2-clause-found c = query_found c.args.line.now c.in-Some-2.query (search rules)

pub returns-in-Some-2-clause-only : goal.returns-in-Some-2-clause-only
returns-in-Some-2-clause-only c = query_only c.args.line.now c.in-Some-2.query (search rules)

pub returns-in-Err-BadEdit-clause-found : goal.returns-in-Err-BadEdit-clause-found
returns-in-Err-BadEdit-clause-found c = (
  no_edit c.args.line.now c.in-Err-BadEdit.field-0 c.in-Err-BadEdit.field-0-is c.in-Err-BadEdit.ensures.only,
  no_query c.args.line.now (search rules),
  no_word c.args.line.now (search rules),
)

pub returns-in-Err-BadEdit-clause-only : goal.returns-in-Err-BadEdit-clause-only
returns-in-Err-BadEdit-clause-only c =
    let none = returns-in-Err-BadEdit-clause-found c in
    neither_only c.args.line.now none.0 none.1 none.2
