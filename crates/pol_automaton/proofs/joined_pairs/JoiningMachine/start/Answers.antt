use Rattle.pol_automaton.proofs.joined_pairs.JoiningMachine.start.Goals as goal

pub returns-clause-leads : goal.returns-clause-leads
returns-clause-leads c = c.start.ensures c.args.self.now.alphabet
