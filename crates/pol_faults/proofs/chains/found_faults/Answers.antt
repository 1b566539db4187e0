use Rattle.basics.specs.Lines.{lines_of}
use Rattle.pol_text.specs.Text.{body_of}
use Rattle.pol_faults.specs.Faults.{body_faults}
use Rattle.pol_faults.specs.Chains.{chain_faults, headings}
use Rattle.pol_faults.proofs.PlainFacts.{first_alike}
use Rattle.pol_faults.proofs.chains.found_faults.Goals as goal

pub returns-then-not-is_empty : goal.returns-then-not-is_empty
returns-then-not-is_empty c =
    let lines = lines_of c.args.text.now in
    first_alike c.in_ok-remarks.remarks (body_faults (body_of lines)) (chain_faults (headings 1 lines))
    (λ none. let h = c.is_empty.ensures.1 none in absurd cc)
    c.in_ok-remarks.ensures
