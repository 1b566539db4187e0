use Rattle.tac_journal.proofs.TailFacts.{and_rest}
use Rattle.tac_journal.proofs.tail.write_rest.Goals as goal

pub returns-clause-takes : goal.returns-clause-takes
returns-clause-takes g c = λ start first.
    let rest = rw c.split_at.ensures.back at c.write_once-more.ensures.takes in
    and_rest c.args.bytes.now c.args.taken _ _ start _ _ c.requires.within c.requires.some_left first rest
