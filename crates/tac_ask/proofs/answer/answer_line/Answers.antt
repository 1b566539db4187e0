use Rattle.tac_ask.proofs.AnswerFacts.{told_symbols}
use Rattle.tac_ask.proofs.answer.answer_line.Goals as goal

pub returns-clause-symbols : goal.returns-clause-symbols
returns-clause-symbols c = λ h bytes. told_symbols c.args.name.now c.args.reply.now c.told.result c.told.ensures h bytes
