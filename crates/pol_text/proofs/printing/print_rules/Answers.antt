use Rattle.std.proofs.Common.{◌∙◌}
use Rattle.pol_text.proofs.PrintFacts.{rules_more}
use Rattle.pol_text.proofs.printing.print_rules.Goals as goal

pub rules-preserved : goal.rules-preserved
rules-preserved c =
    rules_more c.args.text.now c.rules.text c.print_line.new.text c.as_bytes.result.now c.source.result.now c.args.rules.now c.rules.rule-index c.rule-item.result
    c.rules-test.true c.rule-item.is c.rules.invariant c.in_ok-print_line.ensures (c.as_bytes.ensures.value ∙ c.keyword.ensures) c.source.ensures.bytes
