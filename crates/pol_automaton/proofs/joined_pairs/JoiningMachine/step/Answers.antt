use Rattle.pol_automaton.proofs.joined_pairs.JoiningMachine.step.Goals as goal

pub returns-clause-leads : goal.returns-clause-leads
returns-clause-leads c = λ word led. c.step.ensures c.args.self.now.alphabet word c.args.column c.least_of-symbol.ensures.value led
