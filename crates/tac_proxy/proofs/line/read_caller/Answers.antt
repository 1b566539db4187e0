use Rattle.std.proofs.Common.{rules}
use Rattle.tac_proxy.proofs.WordFacts.{no_words, found_in, none_in}
use Rattle.tac_proxy.proofs.line.read_caller.Goals as goal

pub returns-in_default-clause-none : goal.returns-in_default-clause-none
returns-in_default-clause-none c = λ caller h. no_words c.args.line.now caller (search rules) h

pub returns-clause-found : goal.returns-clause-found
returns-clause-found c = found_in c.args.line.now _ c.caller_of.result (search rules) c.caller_of.ensures.found

pub returns-clause-none : goal.returns-clause-none
returns-clause-none c = none_in c.args.line.now _ c.caller_of.result (search rules) c.caller_of.ensures.none
