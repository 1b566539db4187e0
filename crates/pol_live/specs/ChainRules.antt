-- The rules along the chain of a subject, as a decider sees them.
use Rattle.pol_names.specs.declared.decision.Decision.{Decision}
use Rattle.pol_names.specs.declared.decision.By.TheVariants as by
use Rattle.pol_names.specs.declared.decision.Verdict.TheVariants.{Deny}
use Rattle.pol_text.specs.Policy.{Entry}
use Rattle.pol_live.specs.declared.along.ChainRule.{ChainRule}

-- whose a rule along the chain is, its number there, and what it says
abbrev pub chain_rule : Entry → ChainRule
chain_rule entry =
    record { owner = entry.owner; number = entry.number; verdict = entry.rule.verdict }

-- what such a rule decides
abbrev pub decision_by : ChainRule → Decision
decision_by rule = record { verdict = rule.verdict; by = by.Rule rule.owner rule.number }

-- where no rule matches, the line is denied
abbrev pub unmatched : Decision
unmatched = record { verdict = Deny; by = by.Default }
