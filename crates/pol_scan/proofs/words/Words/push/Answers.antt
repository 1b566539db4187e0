-- the parent is a word that is there
use Rattle.pol_scan.proofs.WordFacts.{rooted_push}
use Rattle.pol_scan.proofs.words.Words.push.Goals as goal

pub invariant_of-self-2 : goal.invariant_of-self-2
invariant_of-self-2 c =
    rw c.in_ok-push.ensures.items (rooted_push _ _ c.self.invariant (rw c.self.view_is c.requires))
