use Rattle.std.proofs.Common.{sym, true≢false}
use Rattle.pol_pattern.proofs.HeldTexts.{match_law}
use Rattle.pol_automaton.proofs.decider.Decider.decide.Goals as goal

pub returns-in_default-clause-first : goal.returns-in_default-clause-first
returns-in_default-clause-first c = λ entries d k e lt held. true≢false (sym (c.in_default.ensures.found.1 (match_law.texts _ c.args.text.now held)))

pub returns-clause-law : goal.returns-clause-law
returns-clause-law c = match_law

pub returns-in_default-clause-law : goal.returns-in_default-clause-law
returns-in_default-clause-law c = match_law
