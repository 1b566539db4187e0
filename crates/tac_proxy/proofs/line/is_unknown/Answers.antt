use Rattle.tac_proxy.proofs.WordFacts.{unknown_iff}
use Rattle.tac_proxy.proofs.line.is_unknown.Goals as goal

pub returns : goal.returns
returns c =
    let cases = c.in-Some.ensures.cases in
    unknown_iff c.args.line.now c.in-Some.rest.now c.as_slice.result.now c.as_slice.ensures cases.0 cases.1 c.in-len1-up.len_at_least
