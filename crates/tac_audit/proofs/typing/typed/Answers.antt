use Rattle.tac_audit.proofs.AnswerFacts.{told_whole}
use Rattle.tac_audit.proofs.typing.typed.Goals as goal

pub returns-in_err-console-clause-whole : goal.returns-in_err-console-clause-whole
returns-in_err-console-clause-whole c = told_whole

pub returns-in_err-front-clause-whole : goal.returns-in_err-front-clause-whole
returns-in_err-front-clause-whole c = told_whole

pub returns-in_err-texts_of-clause-whole : goal.returns-in_err-texts_of-clause-whole
returns-in_err-texts_of-clause-whole c = told_whole

pub returns-clause-whole : goal.returns-clause-whole
returns-clause-whole c = told_whole
